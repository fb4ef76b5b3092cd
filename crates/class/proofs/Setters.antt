-- The parameters of setters.
use Rattle.std.proofs.Common.{◌≡◌, ℕ, true, is_some, None, Ok}
use Rattle.parts.specs.declared.MethodFacts.{MethodFacts}
use Rattle.reader.specs.Scenes.{Scene}
use Rattle.script.specs.Asking.{method_at}
use Rattle.script.specs.Lawful.{Lawful}

-- a setter with one parameter and no rest always has a first item
pub setter_item : (s : Scene) (c : ℕ) (m : MethodFacts) → Lawful s.answers → (method_at c s).result ≡ Ok m → m.count ≡ 1 → m.rest ≡ None → is_some m.first_item ≡ true
setter_item s c m h e = h.items c s.tokens m e
