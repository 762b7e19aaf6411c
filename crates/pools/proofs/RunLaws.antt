-- Why one window of marks is enough, and why a step over a run is the step of the rules. Assumes nothing.
-- Tools: a reader of the promises need believe nothing here.
use Prim.Native.Nat.{ℕ, zero, suc, ◌+◌, ◌-◌, ◌≤◌, ◌<◌}
use mathlib.Core.Path.{◌≡◌, refl, sym, ap, ◌∙◌}
use mathlib.Core.Bool.{Bool, true, false, ◌||◌}
use mathlib.Core.List.{List, [], ◌∷◌}
use lib.IntN.{ℤ, pos, negsuc, neg_ℤ, ◌+ℤ◌, ◌-ℤ◌}
use lib.Signed.{le_z, lt_z, ◌≤ℤ◌, ◌<ℤ◌}
use lib.ListN.{get_or, set, length}
use lib.Seq.{get_or-set_same, get_or-set_other}
use lib.Dec.{ltb, eqb}
use mir.Syntax.{w32}
use mir.Val.{SFits}
use borrow.Author.Tests.{ltb-true, ltb-false, eqb-true, eqb-false}
use borrow.Author.Count.{below_more}
use native.Mathlib.Omega.{arith}
use Rattle.integers.specs.Integers.{plus, minus, eq_z}
use Rattle.integers.proofs.Order.{integers, add=, neg=, abs=, fits→, →fits}
use Rattle.integers.specs.Distance.{distance}
use Rattle.domains.specs.Choice.{pick}
use Rattle.domains.specs.Domain.{has, width, raised, lowered}
use Rattle.domains.proofs.Stepping.{raised_is, lowered_is}
use Rattle.std.proofs.Common.{Option, Some, None, SomeIff}
use Rattle.pools.specs.Runs.{shifted, Place, Marked, FirstClear, Steps}

-- the greater of two numbers lies their distance above the smaller
pub apart : (a b : ℤ) → a ≤ℤ b → distance a b + (plus a + minus b) ≡ plus b + minus a
unfolding distance
apart a b h = omega (integers, abs= (b -ℤ a), add= b (neg_ℤ a), neg= a)

-- k below a number
down= : (a : ℤ) (k : ℕ) → plus (a -ℤ pos k) + minus a + k ≡ plus a + minus (a -ℤ pos k)
down= a k = omega (integers, add= a (neg_ℤ (pos k)), neg= (pos k))

-- two shifts of one number differ where their lengths do
shifts_differ : (up : Bool) (v : ℤ) (k n : ℕ) → k < n → eq_z (shifted up v k) (shifted up v n) ≡ false
shifts_differ true v k n h = omega (integers, add= v (pos k), add= v (pos n))
shifts_differ false v k n h = omega (integers, down= v k, down= v n)

-- two tests of which each says what the other does agree
agree : (k r : ℕ) (a b : ℤ) → (k ≡ r → a ≡ b) → (a ≡ b → k ≡ r) → eqb k r ≡ eq_z a b
agree k r a b there back = go (eqb k r) refl (eq_z a b) refl
  where
    go : (s : Bool) → eqb k r ≡ s → (t : Bool) → eq_z a b ≡ t → eqb k r ≡ eq_z a b
    go true p true q = p ∙ sym q
    go true p false q = let same = there (eqb-true _ _ p) in absurd (omega integers)
    go false p true q = let same : a ≡ b = omega integers in absurd (eqb-false _ _ p (back same))
    go false p false q = p ∙ sym q

-- the answer of `ahead`: the distance, where the value lies so far above, is its place in the window
module _ (from v : ℤ) where
  pub above : (r : Option ℕ) → SomeIff r ((from ≤ℤ v) × (distance from v < 1024)) (distance from v) → Place true from v r
  above None n = record { within = tt; here = λ k h. absent k h (eq_z (from +ℤ pos k) v) refl }
    where
      absent : (k : ℕ) → k < 1024 → (t : Bool) → eq_z (from +ℤ pos k) v ≡ t → false ≡ t
      absent k h false e = refl
      absent k h true e =
          let sum = add= from (pos k) in
          let above : from ≤ℤ v = omega integers in
          let between = apart from v above in
          absurd (n (above, omega integers))
  above (Some r) f =
      record {
        within = omega (arith, f.0.1, f.1);
        here =
            λ k h.
            let sum = add= from (pos k) in
            let between = apart from v f.0.0 in
            let far = f.1 in
            agree k r (from +ℤ pos k) v (λ e. omega integers) (λ e. omega integers);
      }

-- a value lies as far below a number as that lies above the value
pub mirrored : (from v : ℤ) (r : Option ℕ) → Place true v from r → Place false from v r
mirrored from v r p = record { within = p.within; here = λ k h. p.here k h ∙ turned k (eq_z (v +ℤ pos k) from) refl }
  where
    turned : (k : ℕ) (t : Bool) → eq_z (v +ℤ pos k) from ≡ t → t ≡ eq_z (from -ℤ pos k) v
    turned k true e = sym (omega (integers, add= v (pos k), down= from k))
    turned k false e = sym (omega (integers, add= v (pos k), down= from k))

-- a mark that is set stays set, and one more is
pub set_mark : (marks : List Bool) (r k : ℕ) → r < length marks → get_or (set marks r true) k false ≡ (eqb k r || get_or marks k false)
set_mark marks r k h = go (eqb k r) refl
  where
    go : (t : Bool) → eqb k r ≡ t → get_or (set marks r true) k false ≡ (t || get_or marks k false)
    go true e = ap (λ (i : ℕ). get_or (set marks r true) i false) (eqb-true k r e) ∙ get_or-set_same marks r true false h
    go false e = get_or-set_other marks r k true false (eqb-false k r e)

-- a value is marked, or still among those to come: marking the first of those keeps that
module _ (up : Bool) (from v : ℤ) (marks : List Bool) (rest : List ℤ) (k : ℕ) where
  pub marks_more :
      (r : ℕ) → r < length marks → Place up from v (Some r) → k < 1024
      → (has rest (shifted up from k) || get_or (set marks r true) k false) ≡ (has (v ∷ rest) (shifted up from k) || get_or marks k false)
  marks_more r l p h =
      rw (set_mark marks r k l, p.here k h) (turned (eq_z (shifted up from k) v) (has rest (shifted up from k)) (get_or marks k false))
    where
      turned : (a b c : Bool) → (b || (a || c)) ≡ ((a || b) || c)
      turned true true c = refl
      turned true false c = refl
      turned false b c = refl

  -- and one outside the window needs no mark
  pub marks_same :
      Place up from v None → k < 1024
      → (has rest (shifted up from k) || get_or marks k false) ≡ (has (v ∷ rest) (shifted up from k) || get_or marks k false)
  marks_same p h = rw (sym (p.here k h)) refl

-- the values but for x
without : List ℤ → ℤ → List ℤ
without [] x = []
without (h ∷ hs) x = pick (eq_z x h) (without hs x) (h ∷ without hs x)

-- x was one of them, or none was lost
fewer : (hs : List ℤ) (x : ℤ) → length (without hs x) + pick (has hs x) 1 0 ≤ length hs
unfolding without
fewer [] x = omega arith
fewer (h ∷ hs) x = go (eq_z x h) (has hs x) (fewer hs x)
  where
    go : (t u : Bool) → length (without hs x) + pick u 1 0 ≤ length hs → length (pick t (without hs x) (h ∷ without hs x)) + pick (t || u) 1 0 ≤ suc (length hs)
    go true true l = omega arith
    go true false l = omega arith
    go false u l = omega arith

-- and every other value is where it was
others : (hs : List ℤ) (x y : ℤ) → eq_z y x ≡ false → has (without hs x) y ≡ has hs y
unfolding without
others [] x y e = refl
others (h ∷ hs) x y e = go (eq_z x h) refl (others hs x y e)
  where
    go : (t : Bool) → eq_z x h ≡ t → has (without hs x) y ≡ has hs y → has (pick t (without hs x) (h ∷ without hs x)) y ≡ (eq_z y h || has hs y)
    go true q l = let differ : eq_z y h ≡ false = omega integers in rw differ l
    go false q l = rw l

-- a run is no longer than the list that has its values: each takes one of the list
no_longer : (n : ℕ) (hs : List ℤ) (up : Bool) (v : ℤ) → ((k : ℕ) → k < n → has hs (shifted up v k) ≡ true) → n ≤ length hs
no_longer zero hs up v held = omega arith
no_longer (suc n) hs up v held =
    let x = shifted up v n in
    let less : length (without hs x) + 1 ≤ length hs = rw (held n (omega arith)) at (fewer hs x) in
    let rest = no_longer n (without hs x) up v (λ k h. others hs x (shifted up v k) (shifts_differ up v k n h) ∙ held k (omega arith)) in
    omega arith

-- the first clear mark ends the run, and so does the window's end, since the list is no longer
pub steps_end :
    (hs : List ℤ) (up : Bool) (v : ℤ) (marks : List Bool) (r most n : ℕ) → length hs ≤ 1024 → Marked hs up v marks → FirstClear marks r
    → n ≤ r → n ≤ most → (n < most → n ≡ r) → Steps hs up v most n
steps_end hs up v marks r most n short m f here within all =
    record {
      short = omega (arith, f.within);
      within = within;
      held = λ k h. held k (omega arith);
      ends = λ h. rw (all h) (go (ltb r 1024) refl (has hs (shifted up v r)) refl);
    }
  where
    held : (k : ℕ) → k < r → has hs (shifted up v k) ≡ true
    held k h = sym (m.tells k (omega (arith, f.within))) ∙ f.set k h

    go : (s : Bool) → ltb r 1024 ≡ s → (t : Bool) → has hs (shifted up v r) ≡ t → t ≡ false
    go true p t q = sym q ∙ sym (m.tells r (ltb-true _ _ p)) ∙ f.clear (ltb-true _ _ p)
    go false p true q = absurd (omega (arith, ltb-false r 1024 p, no_longer (r + 1) hs up v (below_more _ _ held q)))
    go false p false q = refl

-- the steps up from v, no more than there are values up to u, are the step of the rules; and an i32 has room for it
pub steps_up :
    (hs : List ℤ) (u v : ℤ) (n : ℕ) → SFits w32 u → SFits w32 v → (has hs u ≡ true → u <ℤ pos 2147483647) → Steps hs true v (width v u) n
    → SFits w32 (v +ℤ pos n) × (v +ℤ pos n ≡ raised hs u v)
steps_up hs u v n fu fv room s =
    let r = v +ℤ pos n in
    let sum = add= v (pos n) in
    let most = s.within in (
      →fits r (top (le_z r u) refl (lt_z u v) refl) (omega (integers, fits→ v fv)),
      sym
          (raised_is hs u v r
          (record {
            above = omega integers;
            passed =
                λ x p q.
                let k = plus x + minus v - (plus v + minus x) in
                let same : v +ℤ pos k ≡ x = omega (integers, add= v (pos k)) in
                (omega integers, rw same at (s.held k (omega integers)));
            stops = λ h. s.ends (omega integers);
          })),
    )
  where
    top : (a : Bool) → le_z (v +ℤ pos n) u ≡ a → (b : Bool) → lt_z u v ≡ b → plus (v +ℤ pos n) ≤ minus (v +ℤ pos n) + 2147483647
    top true p b q = omega (integers, fits→ u fu)
    top false p true q = omega (integers, fits→ v fv, add= v (pos n), s.within)
    top false p false q =
        let sum = add= v (pos n) in
        let most = s.within in
        let same : v +ℤ pos (n - 1) ≡ u = omega (integers, add= v (pos (n - 1))) in
        omega (integers, room (rw same at (s.held (n - 1) (omega integers))))

-- the mirror image: the steps down from v, no more than there are values down to l
pub steps_down :
    (hs : List ℤ) (l v : ℤ) (n : ℕ) → SFits w32 l → SFits w32 v → (has hs l ≡ true → negsuc 2147483647 <ℤ l) → Steps hs false v (width l v) n
    → SFits w32 (v -ℤ pos n) × (v -ℤ pos n ≡ lowered hs l v)
steps_down hs l v n fl fv room s =
    let r = v -ℤ pos n in
    let sum = down= v n in
    let most = s.within in (
      →fits r (omega (integers, fits→ v fv)) (bottom (le_z l r) refl (lt_z v l) refl),
      sym
          (lowered_is hs l v r
          (record {
            below = omega integers;
            passed =
                λ x p q.
                let k = plus v + minus x - (plus x + minus v) in
                let same : v -ℤ pos k ≡ x = omega (integers, down= v k) in
                (omega integers, rw same at (s.held k (omega integers)));
            stops = λ h. s.ends (omega integers);
          })),
    )
  where
    bottom : (a : Bool) → le_z l (v -ℤ pos n) ≡ a → (b : Bool) → lt_z v l ≡ b → minus (v -ℤ pos n) ≤ plus (v -ℤ pos n) + 2147483648
    bottom true p b q = omega (integers, fits→ l fl)
    bottom false p true q = omega (integers, fits→ v fv, down= v n, s.within)
    bottom false p false q =
        let sum = down= v n in
        let most = s.within in
        let same : v -ℤ pos (n - 1) ≡ l = omega (integers, down= v (n - 1)) in
        omega (integers, room (rw same at (s.held (n - 1) (omega integers))))
