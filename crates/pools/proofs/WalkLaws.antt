-- A walk along one variable's updates, and what the questions about them make of it.
-- Tools: a reader of the promises need believe nothing here. Assumes nothing.
use Prim.Native.Nat.{ℕ, zero, suc, ◌-◌, ◌+◌, ◌≤◌}
use mathlib.Core.Path.{◌≡◌, refl, sym, ap, ◌∙◌, subst}
use mathlib.Core.Bool.{Bool, true, false}
use mathlib.Core.List.{List, [], ◌∷◌, ◌++◌}
use lib.IntN.{ℤ}
use lib.ListN.{length, get_or, take, drop}
use native.Mathlib.Omega.{arith}
use Rattle.std.proofs.lemmas.List.{get_or_append_left, get_or_at, take-append-drop, append_assoc}
use Rattle.std.specs.List.{list_any, filter, find}
use Rattle.std.specs.Option.{option_map, MatchOption}
use Rattle.std.proofs.Common.{Option, Some, None, nat_le, cond}
use Rattle.integers.specs.Integers.{eq_z}
use Rattle.domains.specs.Choice.{pick}
use Rattle.domains.specs.Domain.{has}
use Rattle.pools.specs.declared.Update.{Update}
use Rattle.pools.specs.Chain.{no_update, chain, values_of, up_to, newest_or}
use Rattle.pools.proofs.ChainLaws.{one_step}

-- a chain among the first places does not see those behind them
front : (xs ys : List Update) (n link : ℕ) → n ≤ length xs → chain (xs ++ ys) n link ≡ chain xs n link
unfolding chain
front xs ys zero link h = refl
front xs ys (suc n) link h =
    let same = get_or_append_left xs ys no_update n (omega arith) in
    rw (same, front xs ys n (get_or xs n no_update).previous (omega arith), front xs ys n link (omega arith)) refl

-- a link leads to the last of the places up to it, and then on among those before that
pub next_update :
    (places before : List Update) (u : Update) (link : ℕ) → link ≤ length places → take link places ≡ before ++ (u ∷ []) → length before + 1 ≡ link
    → chain places (length places) link ≡ u ∷ chain before (length before) u.previous
next_update places before u link h e l =
    let at : link - 1 ≡ length before = omega arith in
    let parts : places ≡ before ++ (u ∷ drop link places) = sym (take-append-drop link places) ∙ ap (λ (xs : List Update). xs ++ drop link places) e ∙ append_assoc before (u ∷ []) (drop link places) in
    let here : get_or places (link - 1) no_update ≡ u =
    ap (λ (xs : List Update). get_or xs (link - 1) no_update) parts ∙ get_or_at before u (drop link places) no_update (link - 1) (omega arith) in
    let behind : chain places (length before) u.previous ≡ chain before (length before) u.previous =
    ap (λ (xs : List Update). chain xs (length before) u.previous) parts ∙ front before (u ∷ drop link places) (length before) u.previous (omega arith) in
    one_step places (length places) link (omega arith) h ∙ rw (here, at) (ap (λ (us : List Update). u ∷ us) behind)

-- which of the updates have a value, and which is the newest up to a position
pub has_any : (us : List Update) (v : ℤ) → list_any (λ (u : Update). eq_z v u.value) us ≡ has (values_of us) v
has_any [] v = refl
has_any (u ∷ us) v = rw (has_any us v) refl

pub filter_up_to : (us : List Update) (p : ℕ) → filter (λ (u : Update). nat_le u.position.0 p) us ≡ up_to us p
filter_up_to [] p = refl
filter_up_to (u ∷ us) p = go (nat_le u.position.0 p) (filter_up_to us p)
  where
    go :
        (t : Bool) → filter (λ (x : Update). nat_le x.position.0 p) us ≡ up_to us p
        → cond t (u ∷ filter (λ (x : Update). nat_le x.position.0 p) us) (filter (λ (x : Update). nat_le x.position.0 p) us) ≡ pick t (u ∷ up_to us p) (up_to us p)
    go true e = ap (λ (xs : List Update). u ∷ xs) e
    go false e = e

-- the value found, or another where none is
abbrev pub found_or : Option Update → ℤ → ℤ
found_or None otherwise = otherwise
found_or (Some u) otherwise = u.value

pub find_value :
    (r f : Option Update) (v otherwise : ℤ) (P : Update → Type 0) → option_map (λ (u : Update). u) r ≡ f → MatchOption r (v ≡ otherwise) P → ((u : Update) → P u → v ≡ u.value)
    → v ≡ found_or f otherwise
find_value r f v otherwise P e m tells = subst (λ (g : Option Update). v ≡ found_or g otherwise) e (go r m)
  where
    go : (r' : Option Update) → MatchOption r' (v ≡ otherwise) P → v ≡ found_or (option_map (λ (u : Update). u) r') otherwise
    go None h = h
    go (Some u) h = tells u h

pub find_up_to : (us : List Update) (p : ℕ) (otherwise : ℤ) → found_or (find (λ (u : Update). nat_le u.position.0 p) us) otherwise ≡ newest_or (up_to us p) otherwise
find_up_to [] p otherwise = refl
find_up_to (u ∷ us) p otherwise = go (nat_le u.position.0 p) (find_up_to us p otherwise)
  where
    go :
        (t : Bool) → found_or (find (λ (x : Update). nat_le x.position.0 p) us) otherwise ≡ newest_or (up_to us p) otherwise
        → found_or (cond t (Some u) (find (λ (x : Update). nat_le x.position.0 p) us)) otherwise ≡ newest_or (pick t (u ∷ up_to us p) (up_to us p)) otherwise
    go true e = refl
    go false e = e
