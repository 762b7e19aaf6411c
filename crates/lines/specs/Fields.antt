-- A line's fields, and when two texts are the same (RULES.md, D3). A text is the list of its bytes. That the fields are the one way to part a line at its tabs is shown in proofs/FieldLaws.antt. Assumes nothing.
use Rattle.std.specs.Prelude.{ℕ, Bool, true, false, ◌&&◌, cond, ◌≡◌, ◌<◌, ◌≤◌, List, [], ◌∷◌, ◌++◌, eqb, length, get_or, Option, Some, None}
use denote.Ref.{Bor}

-- the bytes before the first tab, byte 9, or all of them where there is none
abbrev pub first_field : List ℕ → List ℕ
first_field [] = []
first_field (b ∷ line) = cond (eqb b 9) [] (b ∷ first_field line)

-- the fields after the first tab
abbrev pub later_fields : List ℕ → List (List ℕ)
later_fields [] = []
later_fields (b ∷ line) = cond (eqb b 9) (first_field line ∷ later_fields line) (later_fields line)

-- the line parted at each tab
abbrev pub fields : List ℕ → List (List ℕ)
fields line = first_field line ∷ later_fields line

-- the place of the first tab, or the line's length where there is none
pub record FirstTab (line : List ℕ) (place : ℕ) : Type 0 where
  pub inside : place ≤ length line
  pub before : (k : ℕ) → k < place → get_or line k 0 ≡ 9 → ⊥
  pub there : place < length line → get_or line place 0 ≡ 9

-- the fields of what stands behind a tab, where there is one
abbrev pub fields_behind : Option (Bor (List ℕ)) → List (List ℕ)
fields_behind None = []
fields_behind (Some rest) = fields rest.now

-- a text and others after it, each after a tab
abbrev pub joined : List ℕ → List (List ℕ) → List ℕ
joined text [] = text
joined text (next ∷ others) = text ++ 9 ∷ joined next others

-- no tab stands in the text
abbrev pub Tabless : List ℕ → Type 0
Tabless [] = Unit {0}
Tabless (b ∷ text) = (b ≡ 9 → ⊥) × Tabless text

-- no tab stands in any of the texts
abbrev pub AllTabless : List (List ℕ) → Type 0
AllTabless [] = Unit {0}
AllTabless (text ∷ others) = Tabless text × AllTabless others

-- whether two texts are the same, byte by byte
abbrev pub same_bytes : List ℕ → List ℕ → Bool
same_bytes [] [] = true
same_bytes [] (b ∷ m) = false
same_bytes (a ∷ l) [] = false
same_bytes (a ∷ l) (b ∷ m) = eqb a b && same_bytes l m
