-- The table of the starred checks (RULES.md, "Bench checks"), and what it means that one holds. Still to come is H, whose question about
-- a position is to be a further field of a check. Assumes nothing.
use Rattle.std.specs.Prelude.{Ok}
use Rattle.std.specs.Prelude.{ℕ, ◌≡◌, List, [], ◌∷◌, map, ℤ, pos}
use Prim.Native.Char.{Char}
use Rattle.predicates.specs.declared.PredicateType.TheVariants.{LowerBound, NotEqual, Equal}
use Rattle.domains.specs.Limits.{first, last}
use Rattle.stories.specs.Words.{Told}
use Rattle.stories.specs.Words.Told.{refused}
use Rattle.bench.specs.Seen.{Seen, Start, fresh, dense, list, Post, changed, unchanged, Line, shown, begun, looked, created, ran}

-- ---- a check

-- its letter, how it begins, what is seen then, and its posts with what they answer and what is seen after each
pub record Check : Type 0 where
  pub letter : Char
  pub start : Start
  pub sight : Seen
  pub lines : List Line

-- the posts alone
abbrev pub posts_of : List Line → List Post
posts_of ls = map (λ (l : Line). l.post) ls

-- the calls give the number of the variable that is looked at, and then show and answer what the check says
pub record Holds (c : Check) : Type 0 where
  pub variable : created c.start ≡ Ok (record { 0 = looked c.start })
  pub sight : shown (begun c.start) (looked c.start) ≡ c.sight
  pub lines : ran (begun c.start) (looked c.start) (posts_of c.lines) ≡ c.lines

-- each of a list has the property
abbrev pub Each : {A : Type 0} → (A → Type 0) → List A → Type 0
Each P [] = Unit {0}
Each P (a ∷ l) = P a × Each P l

-- ---- the words of the table

-- what is seen of variable 1 at the root: lower, upper, holes newest first, entries, mark, count
abbrev is : ℤ → ℤ → List ℤ → ℕ → ℕ → ℕ → Seen
is l u hs entries mark count = record {
  variables = 2;
  checkpoint = 0;
  domain = record { lower = l; upper = u; holes = hs };
  mark = mark;
  entries = entries;
  count = count;
}

-- a post "at least v", "not v", "equal v", with its answer and what is seen then
abbrev ge : ℤ → Told → Seen → Line
ge v a w = record { post = record { kind = LowerBound; value = v }; answer = a; sight = w }

abbrev ne : ℤ → Told → Seen → Line
ne v a w = record { post = record { kind = NotEqual; value = v }; answer = a; sight = w }

abbrev eq : ℤ → Told → Seen → Line
eq v a w = record { post = record { kind = Equal; value = v }; answer = a; sight = w }

-- a check of a fresh store, and one of a variable from a list, without posts
abbrev freshly : Char → Seen → Check
freshly c w = record { letter = c; start = fresh; sight = w; lines = [] }

abbrev listing : Char → List ℤ → Seen → Check
listing c vs w = record { letter = c; start = list vs; sight = w; lines = [] }

-- a check of a dense variable from l to u: 4 entries, mark 3 and count 0, and then posts
abbrev interval : Char → ℤ → ℤ → List Line → Check
interval c l u ls = record { letter = c; start = dense (record { lower = l; upper = u }); sight = is l u [] 4 3 0; lines = ls }

-- ---- the table

abbrev pub table : List Check
table =
    freshly "A" (record {
      variables = 1;
      checkpoint = 0;
      domain = record { lower = pos 1; upper = pos 1; holes = [] };
      mark = 1;
      entries = 2;
      count = 0;
    })
    ∷ interval "B" (pos 1) (pos 10)
    (ne (pos 3) changed (is (pos 1) (pos 10) (pos 3 ∷ []) 5 3 1)
    ∷ ge (pos 5) changed (is (pos 5) (pos 10) (pos 3 ∷ []) 6 3 5)
    ∷ [])
    ∷ interval "C" (pos 1) (pos 10)
    (ne (pos 3) changed (is (pos 1) (pos 10) (pos 3 ∷ []) 5 3 1)
    ∷ ge (pos 3) changed (is (pos 4) (pos 10) (pos 3 ∷ []) 6 3 4)
    ∷ [])
    ∷ interval "D" (pos 7) (pos 7) (ne (pos 7) (refused 7) (is (pos 8) (pos 6) (pos 7 ∷ []) 5 3 2) ∷ [])
    ∷ interval "E" last last
    (ne last (refused 6) (is last last [] 4 3 0)
    ∷ eq last unchanged (is last last [] 4 3 0)
    ∷ [])
    ∷ interval "F" first first (ne first (refused 6) (is first first [] 4 3 0) ∷ [])
    ∷ interval "G" (pos 1) (pos 10)
    (ne (pos 5) changed (is (pos 1) (pos 10) (pos 5 ∷ []) 5 3 1)
    ∷ eq (pos 5) (refused 7) (is (pos 6) (pos 5) (pos 5 ∷ []) 6 3 11)
    ∷ eq (pos 6) (refused 7) (is (pos 6) (pos 5) (pos 5 ∷ []) 6 3 11)
    ∷ eq (pos 7) (refused 7) (is (pos 7) (pos 5) (pos 5 ∷ []) 7 3 12)
    ∷ [])
    ∷ listing "I" (pos 2 ∷ pos 5 ∷ pos 2 ∷ []) (is (pos 2) (pos 5) (pos 4 ∷ pos 3 ∷ []) 6 5 2)
    ∷ interval "J" (pos 1) (pos 5)
    (ne (pos 2) changed (is (pos 1) (pos 5) (pos 2 ∷ []) 5 3 1)
    ∷ ne (pos 1) changed (is (pos 3) (pos 5) (pos 1 ∷ pos 2 ∷ []) 6 3 3)
    ∷ [])
    ∷ interval "K" first last (eq (pos 0) changed (is (pos 0) (pos 0) [] 5 3 4294967295) ∷ [])
    ∷ []
