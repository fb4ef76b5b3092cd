-- The rules by number.
use Rattle.std.specs.Prelude.{ℕ}
use Rattle.rules.specs.declared.Rule.{Rule}
use Rattle.rules.specs.declared.Rule.TheVariants.{AccessibilityAlreadySeen, AlreadySeen, WithOtherModifier, InAmbientContext, MustPrecede, OnClassElement, InTypeScriptOnly, OnStaticBlock, OnIndexSignature, ConstClassMember, OnTypeParameterOnly, OnPrivateName, OnAccessorProperty, AccessorOnPropertyOnly, CannotBeUsedHere, DeclareConstructor, OnPropertyOrIndexOnly, DecoratorOnOverload, DecoratorsNotValidHere, PrivateNameConstructor, DefiniteWithInitializer, DefiniteWithoutType, DefiniteNotPermitted, OptionalDefinite, OptionalAccessor, AccessorConstructor, FieldConstructor, StaticPrototype, AbstractPrivateName, AbstractInitializer, AmbientInitializer, AccessorTypeParameters, GetterParameters, SetterParameterCount, SetterRest, SetterReturnType, SetterOptionalParameter, SetterInitializer, ConstructorAccessor, ConstructorAsync, ConstructorGenerator, ConstructorAbstract, ConstructorTypeParameters, AmbientImplementation, AbstractAccessorImplementation, AbstractMethodImplementation, ConstructorThis, ConstructorReturnType, ExpectToken, AutoSemicolonInsertion, Unexpected, TooManyDecorators}

abbrev pub rule_number : Rule → ℕ
rule_number AccessibilityAlreadySeen = 1
rule_number AlreadySeen = 2
rule_number WithOtherModifier = 3
rule_number InAmbientContext = 4
rule_number MustPrecede = 5
rule_number OnClassElement = 6
rule_number InTypeScriptOnly = 7
rule_number OnStaticBlock = 8
rule_number OnIndexSignature = 9
rule_number ConstClassMember = 10
rule_number OnTypeParameterOnly = 11
rule_number OnPrivateName = 12
rule_number OnAccessorProperty = 13
rule_number AccessorOnPropertyOnly = 14
rule_number CannotBeUsedHere = 15
rule_number DeclareConstructor = 16
rule_number OnPropertyOrIndexOnly = 17
rule_number DecoratorOnOverload = 18
rule_number DecoratorsNotValidHere = 19
rule_number PrivateNameConstructor = 20
rule_number DefiniteWithInitializer = 21
rule_number DefiniteWithoutType = 22
rule_number DefiniteNotPermitted = 23
rule_number OptionalDefinite = 24
rule_number OptionalAccessor = 25
rule_number AccessorConstructor = 26
rule_number FieldConstructor = 27
rule_number StaticPrototype = 28
rule_number AbstractPrivateName = 29
rule_number AbstractInitializer = 30
rule_number AmbientInitializer = 31
rule_number AccessorTypeParameters = 32
rule_number GetterParameters = 33
rule_number SetterParameterCount = 34
rule_number SetterRest = 35
rule_number SetterReturnType = 36
rule_number SetterOptionalParameter = 37
rule_number SetterInitializer = 38
rule_number ConstructorAccessor = 39
rule_number ConstructorAsync = 40
rule_number ConstructorGenerator = 41
rule_number ConstructorAbstract = 42
rule_number ConstructorTypeParameters = 43
rule_number AmbientImplementation = 44
rule_number AbstractAccessorImplementation = 45
rule_number AbstractMethodImplementation = 46
rule_number ConstructorThis = 47
rule_number ConstructorReturnType = 48
rule_number ExpectToken = 49
rule_number AutoSemicolonInsertion = 50
rule_number Unexpected = 51
rule_number TooManyDecorators = 52
