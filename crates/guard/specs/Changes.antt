-- What a change makes of the flags of a context.
use Rattle.std.specs.Prelude.{ℕ, ◌^◌, List, [], ◌∷◌, bit_and, bit_or, bit_xor}
use Rattle.kinds.specs.Flags.{flag_number}
use Rattle.kinds.specs.declared.context.ContextFlag.{ContextFlag}
use Rattle.kinds.specs.declared.context.ContextFlag.TheVariants.{In, Yield, Await, Return, NewTarget, Ambient}
use Rattle.guard.specs.declared.change.Change.{Change}
use Rattle.guard.specs.declared.change.Change.TheVariants.{ComputedName, Initializer, StaticBlock, Ambient as Declared}

-- the flags that a change sets
abbrev pub sets : Change → List ContextFlag
sets ComputedName = In ∷ []
sets Initializer = In ∷ (NewTarget ∷ [])
sets StaticBlock = In ∷ (Await ∷ (NewTarget ∷ []))
sets Declared = Ambient ∷ []

-- and those that it clears
abbrev pub clears : Change → List ContextFlag
clears ComputedName = []
clears Initializer = Yield ∷ (Await ∷ [])
clears StaticBlock = Yield ∷ (Return ∷ [])
clears Declared = []

-- the bits with a flag set
abbrev pub with_flag : ℕ → ContextFlag → ℕ
with_flag bits f = bit_or bits (2 ^ flag_number f)

-- the bits with a flag cleared
abbrev pub without_flag : ℕ → ContextFlag → ℕ
without_flag bits f = bit_xor bits (bit_and bits (2 ^ flag_number f))

-- with each of some flags set
abbrev pub with_all : ℕ → List ContextFlag → ℕ
with_all bits [] = bits
with_all bits (f ∷ fs) = with_all (with_flag bits f) fs

-- with each of some flags cleared
abbrev pub without_all : ℕ → List ContextFlag → ℕ
without_all bits [] = bits
without_all bits (f ∷ fs) = without_all (without_flag bits f) fs

-- the bits of a context under a change (it opens by name only, so that proofs speak of the change and not of bits)
unfoldable pub changed_bits : Change → ℕ → ℕ
changed_bits change bits = without_all (with_all bits (sets change)) (clears change)
