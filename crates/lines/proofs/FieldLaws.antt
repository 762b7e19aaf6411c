-- The fields of a line are its one parting at the tabs: the byte at a place says how they go on from there.
use Prim.Native.Nat.{ℕ, zero, suc, ◌+◌, ◌-◌, ◌<◌, ◌≤◌}
use mathlib.Core.Path.{◌≡◌, refl, sym, ap, ◌∙◌}
use mathlib.Core.List.{List, [], ◌∷◌, ◌++◌}
use mathlib.Core.Bool.{true, false}
use mathlib.Core.Logic.{⊎_elim}
use native.Mathlib.Numerals.{add-one}
use native.Mathlib.Omega.{arith}
use lib.ListN.{length, get_or, take, drop, length-drop, drop_of_length-le}
use lib.Seq.{take-suc, take_all, drop-cons, append_snoc}
use lib.Dec.{eqb}
use borrow.Author.Tests.{eq-eqb, ne_eqb, eqb-true, eqb-false}
use denote.Ref.{Bor}
use Rattle.std.specs.Prelude.{Option, Some, None, option_map, slice_get}
use Rattle.std.specs.Option.{unwrap_or}
use Rattle.std.specs.List.{count_by, slice_split, onto_first}
use Rattle.std.proofs.lemmas.List.Splits.{length-slice_split, slice_split-cons_yes, slice_split-cons_no}
use Rattle.lines.specs.Fields.{first_field, later_fields, fields, FirstTab, joined, Tabless, AllTabless}
use Rattle.lines.proofs.Cases.{true_or_false}

module _ (line : List ℕ) (i : ℕ) (within : i < length line) where
  -- what is left of the line at i is the byte there and what is left at i + 1
  pub rest_at : drop i line ≡ get_or line i 0 ∷ drop (i + 1) line
  rest_at = rw (add-one, drop-cons line i 0)

  module _ (tab : get_or line i 0 ≡ 9) where
    pub first_at_tab : first_field (drop i line) ≡ []
    first_at_tab = rw (rest_at, eq-eqb _ _ tab)

    pub later_at_tab : later_fields (drop i line) ≡ first_field (drop (i + 1) line) ∷ later_fields (drop (i + 1) line)
    later_at_tab = rw (rest_at, eq-eqb _ _ tab)

  module _ (other : get_or line i 0 ≡ 9 → ⊥) where
    first_at_byte : first_field (drop i line) ≡ get_or line i 0 ∷ first_field (drop (i + 1) line)
    first_at_byte = rw (rest_at, ne_eqb _ _ other)

    pub take_at_byte : take (i + 1) line ++ first_field (drop (i + 1) line) ≡ take i line ++ first_field (drop i line)
    take_at_byte = rw (first_at_byte, add-one, take-suc line i 0, append_snoc)

    pub later_at_byte : later_fields (drop i line) ≡ later_fields (drop (i + 1) line)
    later_at_byte = rw (rest_at, ne_eqb _ _ other)

  -- so a field further on is found by the tabs to pass before it
  pub past_tab : get_or line i 0 ≡ 9 → (tabs left : ℕ) → tabs ≡ suc left → get_or (fields (drop (i + 1) line)) left [] ≡ get_or (fields (drop i line)) tabs []
  past_tab tab tabs left e = rw (e, later_at_tab tab)

  pub past_byte : (get_or line i 0 ≡ 9 → ⊥) → (tabs : ℕ) → (tabs ≡ 0 → ⊥) → get_or (fields (drop (i + 1) line)) tabs [] ≡ get_or (fields (drop i line)) tabs []
  past_byte other zero some = absurd (some refl)
  past_byte other (suc tabs) some = rw (later_at_byte other)

-- the part of a line from i to its end
pub to_end : (line : List ℕ) (i : ℕ) → take (length line - i) (drop i line) ≡ drop i line
to_end line i = take_all (length line - i) (drop i line) (simp length-drop (omega arith))

-- nothing begins past the end
pub at_end : (line : List ℕ) (i : ℕ) → length line ≤ i → (tabs : ℕ) → get_or (fields (drop i line)) tabs [] ≡ []
at_end line i past tabs = ap (λ (l : List ℕ). get_or (fields l) tabs []) (drop_of_length-le line past) ∙ one tabs
  where
    one : (tabs : ℕ) → get_or (fields []) tabs [] ≡ []
    one zero = refl
    one (suc tabs) = refl

-- a byte more before the first text
joined_cons : (b : ℕ) (text : List ℕ) (others : List (List ℕ)) → joined (b ∷ text) others ≡ b ∷ joined text others
joined_cons b text [] = refl
joined_cons b text (next ∷ others) = refl

-- a line is its fields, joined by tabs
pub joined_fields : (line : List ℕ) → joined (first_field line) (later_fields line) ≡ line
joined_fields [] = refl
joined_fields (b ∷ line) =
    let rest = joined_fields line in
    ⊎_elim
    (λ tab. rw (tab, eqb-true b 9 tab) (ap (λ (l : List ℕ). 9 ∷ l) rest))
    (λ other. rw other (joined_cons b (first_field line) (later_fields line) ∙ ap (λ (l : List ℕ). b ∷ l) rest))
    (true_or_false (eqb b 9))

-- and texts without tabs are the fields of the line that joins them, if they are with no first text
with_first : (text : List ℕ) (others : List (List ℕ)) → fields (joined [] others) ≡ [] ∷ others → Tabless text → fields (joined text others) ≡ text ∷ others
with_first [] others e plain = e
with_first (b ∷ text) others e plain =
    let rest = with_first text others e plain.1 in
    let first : first_field (joined text others) ≡ text = cc in
    let later : later_fields (joined text others) ≡ others = cc in
    rw (joined_cons, ne_eqb b 9 plain.0, first, later)

-- which they are
pub fields_joined : (others : List (List ℕ)) (text : List ℕ) → Tabless text → AllTabless others → fields (joined text others) ≡ text ∷ others
fields_joined [] text plain plains = with_first text [] refl plain
fields_joined (next ∷ others) text plain plains =
    with_first text (next ∷ others) (ap (λ (rest : List (List ℕ)). [] ∷ rest) (fields_joined others next plains.0 plains.1)) plain

-- and no field has a tab
first_tabless : (line : List ℕ) → Tabless (first_field line)
first_tabless [] = tt
first_tabless (b ∷ line) =
    let rest = first_tabless line in
    ⊎_elim (λ tab. rw tab tt) (λ other. rw other (eqb-false b 9 other, rest)) (true_or_false (eqb b 9))

later_tabless : (line : List ℕ) → AllTabless (later_fields line)
later_tabless [] = tt
later_tabless (b ∷ line) =
    let rest = later_tabless line in
    ⊎_elim (λ tab. rw tab (first_tabless line, rest)) (λ other. rw other rest) (true_or_false (eqb b 9))

pub fields_tabless : (line : List ℕ) → AllTabless (fields line)
fields_tabless line = (first_tabless line, later_tabless line)

-- the fields are what `split` gives of the line, one more than the tabs
fields_tab : (b : ℕ) (line : List ℕ) → eqb b 9 ≡ true → fields (b ∷ line) ≡ [] ∷ fields line
fields_tab b line tab = rw tab refl

fields_byte : (b : ℕ) (line : List ℕ) → eqb b 9 ≡ false → fields (b ∷ line) ≡ onto_first b (fields line)
fields_byte b line other = rw other refl

pub fields_split : (line : List ℕ) → fields line ≡ slice_split (λ (b : ℕ). eqb b 9) line
fields_split [] = refl
fields_split (b ∷ line) =
    let rest = fields_split line in
    ⊎_elim
    (λ tab. fields_tab b line tab ∙ ap (λ (l : List (List ℕ)). [] ∷ l) rest ∙ sym (slice_split-cons_yes (λ (b : ℕ). eqb b 9) b line tab))
    (λ other. fields_byte b line other ∙ ap (onto_first b) rest ∙ sym (slice_split-cons_no (λ (b : ℕ). eqb b 9) b line other))
    (true_or_false (eqb b 9))

pub fields_counted : (line : List ℕ) → length (fields line) ≡ count_by (λ (b : ℕ). eqb b 9) line + 1
fields_counted line = ap length (fields_split line) ∙ length-slice_split (λ (b : ℕ). eqb b 9) line

-- a text that is found at a place of a list, or no bytes, is what the list has there
got : (texts : List (List ℕ)) (place : ℕ) → unwrap_or (slice_get texts place) [] ≡ get_or texts place []
got [] place = refl
got (text ∷ texts) zero = refl
got (text ∷ texts) (suc place) = got texts place

pub text_found : (found : Option (Bor (List ℕ))) (none : Bor (List ℕ)) (texts : List (List ℕ)) (place : ℕ) → option_map (λ (x : Bor (List ℕ)). x.now) found ≡ slice_get texts place → none.now ≡ [] → (unwrap_or found none).now ≡ get_or texts place []
text_found None none texts place e empty = empty ∙ ap (λ (o : Option (List ℕ)). unwrap_or o []) e ∙ got texts place
text_found (Some text) none texts place e empty = ap (λ (o : Option (List ℕ)). unwrap_or o []) e ∙ got texts place

-- behind the first tab the fields go on
tab_behind : {b : ℕ} {line : List ℕ} {place : ℕ} → FirstTab (b ∷ line) (suc place) → FirstTab line place
tab_behind t = record {
  inside = omega (arith, t.inside);
  before = λ k low. t.before (suc k) (omega arith);
  there = λ short. t.there (omega arith);
}

pub parted : (line : List ℕ) (place : ℕ) → FirstTab line place → place < length line → fields line ≡ take place line ∷ fields (drop (suc place) line)
parted [] place t short = absurd (omega (arith, short))
parted (b ∷ line) zero t short = fields_tab b line (eq-eqb b 9 (t.there short))
parted (b ∷ line) (suc place) t short =
    fields_byte b line (ne_eqb b 9 (t.before 0 (omega arith)))
    ∙ ap (onto_first b) (parted line place (tab_behind t) (omega (arith, short)))

-- with no tab the line is its one field
pub unparted : (line : List ℕ) → FirstTab line (length line) → fields line ≡ line ∷ []
unparted [] t = refl
unparted (b ∷ line) t =
    fields_byte b line (ne_eqb b 9 (t.before 0 (omega arith)))
    ∙ ap (onto_first b) (unparted line (tab_behind t))
