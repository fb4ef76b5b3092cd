-- The keywords and their kinds, in the order of the kinds' codes.
use Rattle.std.specs.Prelude.{ℕ, cond, List, [], ◌∷◌, codes}
use Rattle.std.specs.Str.{bytes_eq}
use Rattle.token.specs.Kinds.{k_ident, k_const, k_default, k_export, k_in, k_this, k_async, k_get, k_set, k_accessor, k_abstract, k_constructor, k_declare, k_out, k_readonly, k_override, k_private, k_protected, k_public, k_static, k_null}

-- every word that is more than a plain name
abbrev pub keywords : List (List ℕ × ℕ)
keywords =
    (codes "await", 5) ∷
    (codes "break", 6) ∷
    (codes "case", 7) ∷
    (codes "catch", 8) ∷
    (codes "class", 9) ∷
    (codes "const", k_const) ∷
    (codes "continue", 11) ∷
    (codes "debugger", 12) ∷
    (codes "default", k_default) ∷
    (codes "delete", 14) ∷
    (codes "do", 15) ∷
    (codes "else", 16) ∷
    (codes "enum", 17) ∷
    (codes "export", k_export) ∷
    (codes "extends", 19) ∷
    (codes "finally", 20) ∷
    (codes "for", 21) ∷
    (codes "function", 22) ∷
    (codes "if", 23) ∷
    (codes "import", 24) ∷
    (codes "in", k_in) ∷
    (codes "instanceof", 26) ∷
    (codes "new", 27) ∷
    (codes "return", 28) ∷
    (codes "super", 29) ∷
    (codes "switch", 30) ∷
    (codes "this", k_this) ∷
    (codes "throw", 32) ∷
    (codes "try", 33) ∷
    (codes "typeof", 34) ∷
    (codes "var", 35) ∷
    (codes "void", 36) ∷
    (codes "while", 37) ∷
    (codes "with", 38) ∷
    (codes "async", k_async) ∷
    (codes "from", 40) ∷
    (codes "get", k_get) ∷
    (codes "meta", 42) ∷
    (codes "of", 43) ∷
    (codes "set", k_set) ∷
    (codes "target", 45) ∷
    (codes "accessor", k_accessor) ∷
    (codes "source", 47) ∷
    (codes "defer", 48) ∷
    (codes "abstract", k_abstract) ∷
    (codes "as", 50) ∷
    (codes "asserts", 51) ∷
    (codes "assert", 52) ∷
    (codes "any", 53) ∷
    (codes "boolean", 54) ∷
    (codes "constructor", k_constructor) ∷
    (codes "declare", k_declare) ∷
    (codes "infer", 57) ∷
    (codes "intrinsic", 58) ∷
    (codes "is", 59) ∷
    (codes "keyof", 60) ∷
    (codes "module", 61) ∷
    (codes "namespace", 62) ∷
    (codes "never", 63) ∷
    (codes "out", k_out) ∷
    (codes "readonly", k_readonly) ∷
    (codes "require", 66) ∷
    (codes "number", 67) ∷
    (codes "object", 68) ∷
    (codes "satisfies", 69) ∷
    (codes "string", 70) ∷
    (codes "symbol", 71) ∷
    (codes "type", 72) ∷
    (codes "undefined", 73) ∷
    (codes "unique", 74) ∷
    (codes "using", 75) ∷
    (codes "unknown", 76) ∷
    (codes "global", 77) ∷
    (codes "bigint", 78) ∷
    (codes "override", k_override) ∷
    (codes "implements", 80) ∷
    (codes "interface", 81) ∷
    (codes "let", 82) ∷
    (codes "package", 83) ∷
    (codes "private", k_private) ∷
    (codes "protected", k_protected) ∷
    (codes "public", k_public) ∷
    (codes "static", k_static) ∷
    (codes "yield", 88) ∷
    (codes "true", 89) ∷
    (codes "false", 90) ∷
    (codes "null", k_null) ∷
    []

-- the kind of the first row whose word is s, or a plain name's
abbrev pub kind_among : List (List ℕ × ℕ) → List ℕ → ℕ
kind_among [] s = k_ident
kind_among (w ∷ ws) s = cond (bytes_eq s w.0) w.1 (kind_among ws s)

-- the kind of a word: a keyword's, or a plain name's
unfoldable pub word_kind : List ℕ → ℕ
word_kind s = kind_among keywords s
