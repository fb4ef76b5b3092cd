-- Context flags: what the text around a piece of code lets it hold.
use Rattle.std.specs.Prelude.{ℕ}
use Rattle.kinds.specs.declared.context.ContextFlag.{ContextFlag}
use Rattle.kinds.specs.declared.context.ContextFlag.TheVariants.{In, Yield, Await, Return, Decorator, DisallowConditionalTypes, Ambient, TopLevel, NewTarget}

-- the number of a flag: its bit in a context
abbrev pub flag_number : ContextFlag → ℕ
flag_number In = 0
flag_number Yield = 1
flag_number Await = 2
flag_number Return = 3
flag_number Decorator = 4
flag_number DisallowConditionalTypes = 5
flag_number Ambient = 6
flag_number TopLevel = 7
flag_number NewTarget = 8
