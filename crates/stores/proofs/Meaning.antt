-- What the store holds is what the trail means: a recorded entry makes of its variable's domain what the rules make of it, leaves the
-- other variables alone, and leaves what was said of earlier positions alone.
use Prim.Native.Nat.{ℕ, zero, suc, ◌+◌, ◌-◌, ◌*◌, ◌≤◌, ◌<◌, min}
use mathlib.Core.Bool.{Bool, true, false}
use mathlib.Core.Path.{◌≡◌, refl, sym, ap, ◌∙◌, subst}
use mathlib.Core.Logic.{◌≢◌}
use mathlib.Core.List.{List, [], ◌∷◌}
use lib.IntN.{ℤ}
use lib.ListN.{get_or, set}
use lib.Seq.{get_or-set_same, get_or-set_other}
use lib.Dec.{ltb, eqb}
use lib.Signed.{◌≤ℤ◌}
use borrow.Author.Tests.{ltb-true, ltb-false, le-leb, lt-leb, eqb-true, eqb-false, eq-eqb, ne_eqb}
use native.Mathlib.Omega.{arith}
use Rattle.predicates.specs.declared.Predicate.{Predicate}
use Rattle.predicates.specs.declared.Reason.{Reason}
use Rattle.domains.specs.declared.Bounds.{Bounds}
use Rattle.domains.specs.Choice.{pick}
use Rattle.domains.specs.Domain.{Domain, is_not_equal, after, pruned_by}
use Rattle.domains.proofs.Fits.{pruned_fits}
use Rattle.pools.specs.declared.Update.{Update}
use Rattle.pools.specs.declared.Pool.{Pool}
use Rattle.pools.specs.Chain.{no_updates, chain_of, values_of, up_to}
use Rattle.pools.proofs.ChainLaws.{no_link, chain_pushed_own, chain_pushed_other}
use Rattle.stories.specs.declared.Entry.{Entry}
use Rattle.stores.specs.declared.Variable.{Variable}
use Rattle.stores.specs.declared.Assignments.{Assignments}
use Rattle.stores.specs.Made.{AreI32}
use Rattle.stories.specs.Story.{no_entry}
use Rattle.stores.specs.Store.{no_variable, bare, variable_of, lowers_of, uppers_of, holes_of, domain_of, entry_of, push_if, link_if, recorded, allocated, marked, opened}
use Rattle.stories.specs.Story.{on, replayed, bounds_of}
use Rattle.stores.specs.Replay.{pruned_up_to}
use Rattle.stores.specs.Positions.{value_at, domain_at}
use Rattle.stores.proofs.Straight.{domain_with, Records, Straight, Tidy, TidyPool, tidy}

-- what holds of every straight store: the bounds are i32, a variable starts with some value, the domain now and the domain that the store
-- has for any position are the trail's, the count is the sum over the entries, and each adds less than 2^33
pub record Meant (s : Assignments) : Type 0 where
  pub i32 : (x : ℕ) → x < s.domains → AreI32 (variable_of s x).bounds
  pub proper : (x : ℕ) → x < s.domains → (variable_of s x).initial.lower ≤ℤ (variable_of s x).initial.upper
  pub now : (x : ℕ) → x < s.domains → domain_of s x ≡ replayed s.trail.entries x (variable_of s x).initial s.trail.length
  pub then' : (x p : ℕ) → x < s.domains → domain_at s x p ≡ replayed s.trail.entries x (variable_of s x).initial (min (suc p) s.trail.length)
  pub count : s.pruned ≡ pruned_up_to s.trail.entries (λ y. (variable_of s y).initial) s.trail.length
  pub small : s.pruned ≤ 8589934592 * s.trail.length

-- ---- the replay

-- entries from n on do not matter to the first n
replayed_set : (es : List Entry) (x : ℕ) (st : Bounds) (n i : ℕ) (e : Entry) → n ≤ i → replayed (set es i e) x st n ≡ replayed es x st n
unfolding replayed
replayed_set es x st zero i e h = refl
replayed_set es x st (suc n) i e h =
    let here : get_or (set es i e) n no_entry ≡ get_or es n no_entry = get_or-set_other es i n e no_entry (omega arith) in
    let before : replayed (set es i e) x st n ≡ replayed es x st n = replayed_set es x st n i e (omega arith) in
    rw (here, before)

replayed_one : (es : List Entry) (x : ℕ) (st : Bounds) (n : ℕ) → replayed es x st (suc n) ≡ pick (on x (get_or es n no_entry)) (after (get_or es n no_entry).predicate.kind (get_or es n no_entry).predicate.value (replayed es x st n)) (replayed es x st n)
unfolding replayed
replayed_one es x st n = refl

-- a variable that no entry names is as it started
replayed_none : (es : List Entry) (x : ℕ) (st : Bounds) (n : ℕ) → ((i : ℕ) → i < n → (get_or es i no_entry).predicate.domain.0 < x) → replayed es x st n ≡ record { lower = st.lower; upper = st.upper; holes = [] }
unfolding replayed
replayed_none es x st zero f = refl
replayed_none es x st (suc n) f = rw (ne_eqb (get_or es n no_entry).predicate.domain.0 x (other (f n (omega arith)))) (replayed_none es x st n (λ i h. f i (omega arith)))
  where
    other : (get_or es n no_entry).predicate.domain.0 < x → (get_or es n no_entry).predicate.domain.0 ≡ x → ⊥
    other a b = omega arith

pruned_set : (es : List Entry) (starts : ℕ → Bounds) (n i : ℕ) (e : Entry) → n ≤ i → pruned_up_to (set es i e) starts n ≡ pruned_up_to es starts n
unfolding pruned_up_to
pruned_set es starts zero i e h = refl
pruned_set es starts (suc n) i e h =
    let here : get_or (set es i e) n no_entry ≡ get_or es n no_entry = get_or-set_other es i n e no_entry (omega arith) in
    let x : ℕ = (get_or es n no_entry).predicate.domain.0 in
    let was : replayed (set es i e) x (starts x) n ≡ replayed es x (starts x) n = replayed_set es x (starts x) n i e (omega arith) in
    let is : replayed (set es i e) x (starts x) (suc n) ≡ replayed es x (starts x) (suc n) = replayed_set es x (starts x) (suc n) i e h in
    rw (here, was, is, pruned_set es starts n i e (omega arith))

-- only the starts of variables that an entry names matter
pruned_starts : (es : List Entry) (starts others : ℕ → Bounds) (n : ℕ) → ((i : ℕ) → i < n → starts (get_or es i no_entry).predicate.domain.0 ≡ others (get_or es i no_entry).predicate.domain.0) → pruned_up_to es starts n ≡ pruned_up_to es others n
unfolding pruned_up_to
pruned_starts es starts others zero f = refl
pruned_starts es starts others (suc n) f = rw (f n (omega arith), pruned_starts es starts others n (λ i h. f i (omega arith)))

-- ---- one update more

own_chain : (b : Bool) (p : Pool) (u : Update) (n : ℕ) → TidyPool p n → n < 1024 → u.previous ≤ p.length → chain_of (push_if b p u).updates (link_if b p u.previous) ≡ pick b (u ∷ chain_of p.updates u.previous) (chain_of p.updates u.previous)
own_chain false p u n t h l = refl
own_chain true p u n t h l = chain_pushed_own p.updates p.length u (omega (arith, t.long, t.short)) (omega (arith, t.short)) l

other_chain : (b : Bool) (p : Pool) (u : Update) (n link : ℕ) → TidyPool p n → n < 1024 → link ≤ p.length → chain_of (push_if b p u).updates link ≡ chain_of p.updates link
other_chain false p u n link t h l = refl
other_chain true p u n link t h l = chain_pushed_other p.updates p.length u link l (omega (arith, t.short))

-- at an earlier position it is not seen, and from its own on it is the newest
value_early : (b : Bool) (u : Update) (us : List Update) (q : ℕ) (o : ℤ) → q < u.position.0 → value_at (pick b (u ∷ us) us) q o ≡ value_at us q o
value_early false u us q o h = refl
value_early true u us q o h = rw (lt-leb u.position.0 q h)

value_late : (b : Bool) (u : Update) (us : List Update) (q : ℕ) (o : ℤ) → u.position.0 ≤ q → (b ≡ false → u.value ≡ value_at us q o) → value_at (pick b (u ∷ us) us) q o ≡ u.value
value_late false u us q o h k = sym (k refl)
value_late true u us q o h k = rw (le-leb u.position.0 q h)

holes_early : (b : Bool) (u : Update) (us : List Update) (q : ℕ) → q < u.position.0 → up_to (pick b (u ∷ us) us) q ≡ up_to us q
holes_early false u us q h = refl
holes_early true u us q h = rw (lt-leb u.position.0 q h)

holes_late : (b : Bool) (u : Update) (us : List Update) (q : ℕ) → u.position.0 ≤ q → values_of (up_to (pick b (u ∷ us) us) q) ≡ pick b (u.value ∷ values_of (up_to us q)) (values_of (up_to us q))
holes_late false u us q h = refl
holes_late true u us q h = rw (le-leb u.position.0 q h)

values_picked : (b : Bool) (u : Update) (us : List Update) → values_of (pick b (u ∷ us) us) ≡ pick b (u.value ∷ values_of us) (values_of us)
values_picked false u us = refl
values_picked true u us = refl

-- what a store at one place keeps, it keeps at every place
kept : {A B : Type 0} (f : A → B) (l : List A) (j i : ℕ) (a d : A) → f a ≡ f (get_or l j d) → f (get_or (set l j a) i d) ≡ f (get_or l i d)
kept f [] j i a d e = refl
kept f (z ∷ l) zero zero a d e = e
kept f (z ∷ l) zero (suc i) a d e = refl
kept f (z ∷ l) (suc j) zero a d e = refl
kept f (z ∷ l) (suc j) (suc i) a d e = kept f l j i a d e

-- ---- an entry is recorded

module _ (s : Assignments) (p : Predicate) (r : Reason) (a b : Bool) (to : Bounds) (t : Tidy s) (m : Meant s) (k : Records s p a b to) where
  x : ℕ
  x = p.domain.0

  n : ℕ
  n = s.trail.length

  was : Variable
  was = variable_of s x

  c : Bool
  c = is_not_equal p.kind

  entry : Entry
  entry = record { predicate = p; old = was.bounds; reason = r }

  new_lower : Update
  new_lower = record { value = to.lower; position = record { 0 = n }; previous = was.lower }

  new_upper : Update
  new_upper = record { value = to.upper; position = record { 0 = n }; previous = was.upper }

  new_hole : Update
  new_hole = record { value = p.value; position = record { 0 = n }; previous = was.holes }

  now : Variable
  now = record {
    bounds = to;
    initial = was.initial;
    lower = link_if a s.lower was.lower;
    upper = link_if b s.upper was.upper;
    holes = link_if c s.holes was.holes;
    mark = was.mark;
  }

  after_it : Assignments
  after_it = recorded s p r a b to

  self : variable_of after_it x ≡ now
  unfolding after_it recorded x n was c now
  self = get_or-set_same s.variables x now no_variable (omega (arith, t.long_variables, t.domains, k.there))

  others : (y : ℕ) → y ≢ x → variable_of after_it y ≡ variable_of s y
  unfolding after_it recorded x n was c now
  others y h = get_or-set_other s.variables x y now no_variable h

  start : (y : ℕ) → (variable_of after_it y).initial ≡ (variable_of s y).initial
  unfolding after_it recorded x n was c now
  start y = kept (λ (w : Variable). w.initial) s.variables x y now no_variable refl

  -- the three chains of the entry's own variable
  own_lowers : lowers_of after_it x ≡ pick a (new_lower ∷ lowers_of s x) (lowers_of s x)
  unfolding after_it recorded x n was c new_lower now
  own_lowers = ap (λ (w : Variable). chain_of (push_if a s.lower new_lower).updates w.lower) self ∙ own_chain a s.lower new_lower n t.lower k.room (t.link_lower x)

  own_uppers : uppers_of after_it x ≡ pick b (new_upper ∷ uppers_of s x) (uppers_of s x)
  unfolding after_it recorded x n was c new_upper now
  own_uppers = ap (λ (w : Variable). chain_of (push_if b s.upper new_upper).updates w.upper) self ∙ own_chain b s.upper new_upper n t.upper k.room (t.link_upper x)

  own_holes : holes_of after_it x ≡ pick c (new_hole ∷ holes_of s x) (holes_of s x)
  unfolding after_it recorded x n was c new_hole now
  own_holes = ap (λ (w : Variable). chain_of (push_if c s.holes new_hole).updates w.holes) self ∙ own_chain c s.holes new_hole n t.holes k.room (t.link_holes x)

  -- and of another
  module _ (y : ℕ) (h : y ≢ x) where
    other_lowers : lowers_of after_it y ≡ lowers_of s y
    unfolding after_it recorded x n was c new_lower now
    other_lowers = ap (λ (w : Variable). chain_of (push_if a s.lower new_lower).updates w.lower) (others y h) ∙ other_chain a s.lower new_lower n _ t.lower k.room (t.link_lower y)

    other_uppers : uppers_of after_it y ≡ uppers_of s y
    unfolding after_it recorded x n was c new_upper now
    other_uppers = ap (λ (w : Variable). chain_of (push_if b s.upper new_upper).updates w.upper) (others y h) ∙ other_chain b s.upper new_upper n _ t.upper k.room (t.link_upper y)

    other_holes : holes_of after_it y ≡ holes_of s y
    unfolding after_it recorded x n was c new_hole now
    other_holes = ap (λ (w : Variable). chain_of (push_if c s.holes new_hole).updates w.holes) (others y h) ∙ other_chain c s.holes new_hole n _ t.holes k.room (t.link_holes y)

    other_domain : domain_of after_it y ≡ domain_of s y
    unfolding domain_of
    other_domain = λ i. record { lower = (others y h i).bounds.lower; upper = (others y h i).bounds.upper; holes = values_of (other_holes i) }

    other_at : (q : ℕ) → domain_at after_it y q ≡ domain_at s y q
    unfolding domain_at
    other_at q = λ i. record {
      lower = value_at (other_lowers i) q (others y h i).initial.lower;
      upper = value_at (other_uppers i) q (others y h i).initial.upper;
      holes = values_of (up_to (other_holes i) q);
    }

  own_domain : domain_of after_it x ≡ domain_with p to (domain_of s x)
  unfolding domain_of now new_hole c x
  own_domain =
      let hs : values_of (holes_of after_it x) ≡ pick c (p.value ∷ values_of (holes_of s x)) (values_of (holes_of s x)) = ap values_of own_holes ∙ values_picked c new_hole (holes_of s x) in
      λ i. record { lower = (self i).bounds.lower; upper = (self i).bounds.upper; holes = hs i }

  own_early : (q : ℕ) → q < n → domain_at after_it x q ≡ domain_at s x q
  unfolding domain_at new_lower new_upper new_hole now was
  own_early q h =
      let lo = ap (λ us. value_at us q was.initial.lower) own_lowers ∙ value_early a new_lower (lowers_of s x) q was.initial.lower h in
      let hi = ap (λ us. value_at us q was.initial.upper) own_uppers ∙ value_early b new_upper (uppers_of s x) q was.initial.upper h in
      let hs = ap (λ us. values_of (up_to us q)) own_holes ∙ ap values_of (holes_early c new_hole (holes_of s x) q h) in
      (λ i. record {
        lower = value_at (lowers_of after_it x) q (self i).initial.lower;
        upper = value_at (uppers_of after_it x) q (self i).initial.upper;
        holes = values_of (up_to (holes_of after_it x) q);
      })
      ∙ (λ i. record { lower = lo i; upper = hi i; holes = hs i })

  -- before it, the newest update is that of the domain now
  late_before : (q : ℕ) → n ≤ q → domain_at s x q ≡ domain_of s x
  unfolding x n
  late_before q h =
      let all : min (suc q) s.trail.length ≡ s.trail.length = omega arith in
      m.then' x q k.there ∙ ap (replayed s.trail.entries x (variable_of s x).initial) all ∙ sym (m.now x k.there)

  own_late : (q : ℕ) → n ≤ q → domain_at after_it x q ≡ domain_with p to (domain_of s x)
  unfolding domain_at domain_of new_lower new_upper new_hole now was c x
  own_late q h =
      let before = late_before q h in
      let lo = ap (λ us. value_at us q was.initial.lower) own_lowers ∙ value_late a new_lower (lowers_of s x) q was.initial.lower h (λ e. k.keeps_lower e ∙ sym (ap (λ (d : Domain). d.lower) before)) in
      let hi = ap (λ us. value_at us q was.initial.upper) own_uppers ∙ value_late b new_upper (uppers_of s x) q was.initial.upper h (λ e. k.keeps_upper e ∙ sym (ap (λ (d : Domain). d.upper) before)) in
      let hs = ap (λ us. values_of (up_to us q)) own_holes ∙ holes_late c new_hole (holes_of s x) q h ∙ ap (λ (d : Domain). pick c (p.value ∷ d.holes) d.holes) before in
      (λ i. record {
        lower = value_at (lowers_of after_it x) q (self i).initial.lower;
        upper = value_at (uppers_of after_it x) q (self i).initial.upper;
        holes = values_of (up_to (holes_of after_it x) q);
      })
      ∙ (λ i. record { lower = lo i; upper = hi i; holes = hs i })

  -- the trail with the entry
  entries : List Entry
  entries = after_it.trail.entries

  replay_early : (y j : ℕ) (st : Bounds) → j ≤ n → replayed entries y st j ≡ replayed s.trail.entries y st j
  unfolding entries after_it recorded x n was entry
  replay_early y j st h = replayed_set s.trail.entries y st j n entry h

  newest_entry : get_or entries n no_entry ≡ entry
  unfolding entries after_it recorded x n was entry
  newest_entry = get_or-set_same s.trail.entries n entry no_entry (omega (arith, t.long_trail, k.room))

  replay_own : (st : Bounds) → replayed entries x st (suc n) ≡ after p.kind p.value (replayed s.trail.entries x st n)
  unfolding entry x
  replay_own st =
      replayed_one entries x st n
      ∙ ap (λ (e : Entry). pick (on x e) (after e.predicate.kind e.predicate.value (replayed entries x st n)) (replayed entries x st n)) newest_entry
      ∙ rw (eq-eqb x x refl) (ap (after p.kind p.value) (replay_early x n st (omega arith)))

  replay_other : (y : ℕ) (st : Bounds) → y ≢ x → replayed entries y st (suc n) ≡ replayed s.trail.entries y st n
  unfolding entry x
  replay_other y st h =
      replayed_one entries y st n
      ∙ ap (λ (e : Entry). pick (on y e) (after e.predicate.kind e.predicate.value (replayed entries y st n)) (replayed entries y st n)) newest_entry
      ∙ rw (ne_eqb x y (λ e. h (sym e))) (replay_early y n st (omega arith))

  -- the domain now
  own_now : domain_of after_it x ≡ replayed entries x was.initial (suc n)
  unfolding x n was
  own_now = own_domain ∙ k.rule ∙ ap (after p.kind p.value) (m.now x k.there) ∙ sym (replay_own was.initial)

  meant_now : (y : ℕ) → y < s.domains → domain_of after_it y ≡ replayed entries y (variable_of s y).initial (suc n)
  unfolding n was
  meant_now y h = go (eqb y x) refl
    where
      go : (q : Bool) → eqb y x ≡ q → domain_of after_it y ≡ replayed entries y (variable_of s y).initial (suc n)
      go true e = let same : y ≡ x = eqb-true y x e in rw same own_now
      go false e = other_domain y (eqb-false y x e) ∙ m.now y h ∙ sym (replay_other y (variable_of s y).initial (eqb-false y x e))

  -- the domain at a position: before the entry as it was, from the entry on as now
  meant_then : (y q : ℕ) → y < s.domains → domain_at after_it y q ≡ replayed entries y (variable_of s y).initial (min (suc q) (suc n))
  unfolding n was
  meant_then y q h = go (ltb q n) refl (eqb y x) refl
    where
      early : (j : ℕ) → j ≤ n → min (suc q) n ≡ j → min (suc q) (suc n) ≡ j → domain_at s y q ≡ replayed entries y (variable_of s y).initial (min (suc q) (suc n))
      early j l e f = m.then' y q h ∙ rw (e, f) (sym (replay_early y j (variable_of s y).initial l))

      go : (w : Bool) → ltb q n ≡ w → (v : Bool) → eqb y x ≡ v → domain_at after_it y q ≡ replayed entries y (variable_of s y).initial (min (suc q) (suc n))
      go true e true f =
          let same : y ≡ x = eqb-true y x f in
          let l = ltb-true q n e in
          ap (λ (z : ℕ). domain_at after_it z q) same ∙ own_early q l ∙ ap (λ (z : ℕ). domain_at s z q) (sym same) ∙ early (suc q) (omega arith) (omega arith) (omega arith)
      go true e false f =
          let l = ltb-true q n e in
          other_at y (eqb-false y x f) q ∙ early (suc q) (omega arith) (omega arith) (omega arith)
      go false e true f =
          let same : y ≡ x = eqb-true y x f in
          let l = ltb-false q n e in
          let all : min (suc q) (suc n) ≡ suc n = omega arith in
          rw (same, all) (own_late q l ∙ sym own_domain ∙ own_now)
      go false e false f =
          let l = ltb-false q n e in
          let all : min (suc q) (suc n) ≡ suc n = omega arith in
          let before : min (suc q) n ≡ n = omega arith in
          rw all (other_at y (eqb-false y x f) q ∙ m.then' y q h ∙ ap (replayed s.trail.entries y (variable_of s y).initial) before ∙ sym (replay_other y (variable_of s y).initial (eqb-false y x f)))

  -- the count
  meant_count : after_it.pruned ≡ pruned_up_to entries (λ y. (variable_of after_it y).initial) (suc n)
  unfolding pruned_up_to entries after_it recorded x n was entry domain_of
  meant_count = total ∙ sym (λ i. earlier i + step i)
    where
      starts : ℕ → Bounds
      starts y = (variable_of after_it y).initial

      earlier : pruned_up_to entries starts n ≡ s.pruned
      earlier = pruned_set s.trail.entries starts n n entry (omega arith) ∙ pruned_starts s.trail.entries starts (λ y. (variable_of s y).initial) n (λ i h. start (entry_of s i).predicate.domain.0) ∙ sym m.count

      before : replayed entries x (starts x) n ≡ domain_of s x
      before = ap (λ (st : Bounds). replayed entries x st n) (start x) ∙ replay_early x n (variable_of s x).initial (omega arith) ∙ sym (m.now x k.there)

      afterwards : replayed entries x (starts x) (suc n) ≡ domain_with p to (domain_of s x)
      afterwards = ap (λ (st : Bounds). replayed entries x st (suc n)) (start x) ∙ sym own_now ∙ own_domain

      step : pruned_by (get_or entries n no_entry).predicate.kind (bounds_of (replayed entries (get_or entries n no_entry).predicate.domain.0 (starts (get_or entries n no_entry).predicate.domain.0) n)) (bounds_of (replayed entries (get_or entries n no_entry).predicate.domain.0 (starts (get_or entries n no_entry).predicate.domain.0) (suc n))) ≡ pruned_by p.kind was.bounds to
      step =
          ap (λ (e : Entry). pruned_by e.predicate.kind (bounds_of (replayed entries e.predicate.domain.0 (starts e.predicate.domain.0) n)) (bounds_of (replayed entries e.predicate.domain.0 (starts e.predicate.domain.0) (suc n)))) newest_entry
          ∙ (λ i. pruned_by p.kind (bounds_of (before i)) (bounds_of (afterwards i)))

      total : after_it.pruned ≡ s.pruned + pruned_by p.kind was.bounds to
      total = refl

  meant_i32 : (y : ℕ) → y < s.domains → AreI32 (variable_of after_it y).bounds
  unfolding now
  meant_i32 y h = go (eqb y x) refl
    where
      go : (q : Bool) → eqb y x ≡ q → AreI32 (variable_of after_it y).bounds
      go true e = let same : y ≡ x = eqb-true y x e in rw (same, self) k.i32
      go false e = rw (others y (eqb-false y x e)) (m.i32 y h)

  meant_small : after_it.pruned ≤ 8589934592 * suc n
  unfolding after_it recorded x n was
  meant_small =
      let i = m.i32 x k.there in
      omega (arith, m.small, pruned_fits p.kind was.bounds to i.lower i.upper k.i32.lower k.i32.upper)

  enter_meant : Meant (recorded s p r a b to)
  unfolding after_it recorded entries n
  enter_meant = record {
    i32 = meant_i32;
    proper = λ y h. rw (start y) (m.proper y h);
    now = λ y h. rw (start y) (meant_now y h);
    then' = λ y q h. rw (start y) (meant_then y q h);
    count = meant_count;
    small = meant_small;
  }

  -- for the caller: the entry's own variable, and the others
  pub recorded_own : domain_of (recorded s p r a b to) p.domain.0 ≡ domain_with p to (domain_of s p.domain.0)
  unfolding after_it x
  recorded_own = own_domain

  pub recorded_other : (y : ℕ) → y ≢ p.domain.0 → domain_of (recorded s p r a b to) y ≡ domain_of s y
  unfolding after_it x
  recorded_other y h = other_domain y h

-- ---- the other steps

none_meant : Meant bare
unfolding bare no_updates replayed pruned_up_to
none_meant = record {
  i32 = λ x h. absurd (omega arith);
  proper = λ x h. absurd (omega arith);
  now = λ x h. absurd (omega arith);
  then' = λ x q h. absurd (omega arith);
  count = refl;
  small = omega arith;
}

module _ (s : Assignments) (start : Bounds) (t : Tidy s) (m : Meant s) (room : s.domains < 256) where
  laid : Variable
  laid = record { bounds = start; initial = start; lower = 0; upper = 0; holes = 0; mark = record { 0 = s.trail.length + 1 } }

  with_it : Assignments
  with_it = allocated s start

  laid_down : variable_of with_it s.domains ≡ laid
  unfolding with_it allocated laid
  laid_down = get_or-set_same s.variables s.domains laid no_variable (omega (arith, t.long_variables))

  elsewhere : (y : ℕ) → y < s.domains → variable_of with_it y ≡ variable_of s y
  unfolding with_it allocated laid
  elsewhere y h = get_or-set_other s.variables s.domains y laid no_variable (omega arith)

  begun : Domain
  begun = record { lower = start.lower; upper = start.upper; holes = [] }

  begun_now : domain_of with_it s.domains ≡ begun
  unfolding domain_of begun laid
  begun_now =
      (λ i. record { lower = (laid_down i).bounds.lower; upper = (laid_down i).bounds.upper; holes = values_of (chain_of with_it.holes.updates (laid_down i).holes) })
      ∙ (λ i. record { lower = start.lower; upper = start.upper; holes = values_of (no_link with_it.holes.updates 1024 i) })

  begun_at : (q : ℕ) → domain_at with_it s.domains q ≡ begun
  unfolding domain_at begun laid
  begun_at q =
      (λ i. record {
        lower = value_at (chain_of with_it.lower.updates (laid_down i).lower) q (laid_down i).initial.lower;
        upper = value_at (chain_of with_it.upper.updates (laid_down i).upper) q (laid_down i).initial.upper;
        holes = values_of (up_to (chain_of with_it.holes.updates (laid_down i).holes) q);
      })
      ∙ (λ i. record {
        lower = value_at (no_link with_it.lower.updates 1024 i) q start.lower;
        upper = value_at (no_link with_it.upper.updates 1024 i) q start.upper;
        holes = values_of (up_to (no_link with_it.holes.updates 1024 i) q);
      })

  begun_replay : (j : ℕ) → j ≤ s.trail.length → replayed s.trail.entries s.domains (variable_of with_it s.domains).initial j ≡ begun
  unfolding begun laid
  begun_replay j h = rw laid_down (replayed_none s.trail.entries s.domains start j (λ i l. t.named i (omega arith)))

  same_now : (y : ℕ) → y < s.domains → domain_of with_it y ≡ domain_of s y
  unfolding domain_of with_it allocated
  same_now y h = λ i. record { lower = (elsewhere y h i).bounds.lower; upper = (elsewhere y h i).bounds.upper; holes = values_of (chain_of s.holes.updates (elsewhere y h i).holes) }

  same_at : (y q : ℕ) → y < s.domains → domain_at with_it y q ≡ domain_at s y q
  unfolding domain_at with_it allocated
  same_at y q h = λ i. record {
    lower = value_at (chain_of s.lower.updates (elsewhere y h i).lower) q (elsewhere y h i).initial.lower;
    upper = value_at (chain_of s.upper.updates (elsewhere y h i).upper) q (elsewhere y h i).initial.upper;
    holes = values_of (up_to (chain_of s.holes.updates (elsewhere y h i).holes) q);
  }

  -- a property of every variable: of the new one, and of those before
  each : (P : ℕ → Type 0) → P s.domains → ((y : ℕ) → y < s.domains → P y) → (y : ℕ) → y < suc s.domains → P y
  each P new old y h = go (ltb y s.domains) refl
    where
      go : (q : Bool) → ltb y s.domains ≡ q → P y
      go true e = old y (ltb-true y s.domains e)
      go false e = let same : s.domains ≡ y = omega (arith, ltb-false y s.domains e) in subst P same new

  allocate_meant : AreI32 start → start.lower ≤ℤ start.upper → Meant (allocated s start)
  unfolding with_it allocated laid
  allocate_meant fits some = record {
    i32 = each (λ (y : ℕ). AreI32 (variable_of with_it y).bounds) (rw laid_down fits) (λ y h. rw (elsewhere y h) (m.i32 y h));
    proper = each (λ (y : ℕ). (variable_of with_it y).initial.lower ≤ℤ (variable_of with_it y).initial.upper) (rw laid_down some) (λ y h. rw (elsewhere y h) (m.proper y h));
    now = each (λ (y : ℕ). domain_of with_it y ≡ replayed s.trail.entries y (variable_of with_it y).initial s.trail.length)
        (begun_now ∙ sym (begun_replay s.trail.length (omega arith)))
        (λ y h. same_now y h ∙ m.now y h ∙ ap (λ (w : Variable). replayed s.trail.entries y w.initial s.trail.length) (sym (elsewhere y h)));
    then' = λ y q. each (λ (z : ℕ). domain_at with_it z q ≡ replayed s.trail.entries z (variable_of with_it z).initial (min (suc q) s.trail.length))
        (begun_at q ∙ sym (begun_replay (min (suc q) s.trail.length) (omega arith)))
        (λ z h. same_at z q h ∙ m.then' z q h ∙ ap (λ (w : Variable). replayed s.trail.entries z w.initial (min (suc q) s.trail.length)) (sym (elsewhere z h))) y;
    count = m.count ∙ pruned_starts s.trail.entries _ _ s.trail.length (λ i h. sym (ap (λ (w : Variable). w.initial) (elsewhere (entry_of s i).predicate.domain.0 (t.named i h))));
    small = m.small;
  }

mark_meant : (s : Assignments) (x : ℕ) → Meant s → Meant (marked s x)
unfolding marked domain_of domain_at
mark_meant s x m = record {
  i32 = λ y h. rw (bounds y) (m.i32 y h);
  proper = λ y h. rw (initial y) (m.proper y h);
  now = λ y h. rw (bounds y, initial y, holes y) (m.now y h);
  then' = λ y q h. rw (initial y, lower y, upper y, holes y) (m.then' y q h);
  count = m.count ∙ pruned_starts s.trail.entries _ _ s.trail.length (λ i h. sym (initial (entry_of s i).predicate.domain.0));
  small = m.small;
}
  where
    marked_one : Variable
    marked_one = record { bounds = (variable_of s x).bounds; initial = (variable_of s x).initial; lower = (variable_of s x).lower; upper = (variable_of s x).upper; holes = (variable_of s x).holes; mark = record { 0 = s.trail.length - 1 } }

    bounds : (y : ℕ) → (variable_of (marked s x) y).bounds ≡ (variable_of s y).bounds
    bounds y = kept (λ (w : Variable). w.bounds) s.variables x y marked_one no_variable refl

    initial : (y : ℕ) → (variable_of (marked s x) y).initial ≡ (variable_of s y).initial
    initial y = kept (λ (w : Variable). w.initial) s.variables x y marked_one no_variable refl

    lower : (y : ℕ) → (variable_of (marked s x) y).lower ≡ (variable_of s y).lower
    lower y = kept (λ (w : Variable). w.lower) s.variables x y marked_one no_variable refl

    upper : (y : ℕ) → (variable_of (marked s x) y).upper ≡ (variable_of s y).upper
    upper y = kept (λ (w : Variable). w.upper) s.variables x y marked_one no_variable refl

    holes : (y : ℕ) → (variable_of (marked s x) y).holes ≡ (variable_of s y).holes
    holes y = kept (λ (w : Variable). w.holes) s.variables x y marked_one no_variable refl

open_meant : (s : Assignments) → Meant s → Meant (opened s)
unfolding opened domain_of domain_at
open_meant s m = record { i32 = m.i32; proper = m.proper; now = m.now; then' = m.then'; count = m.count; small = m.small }

-- every straight store holds what its trail means
pub meant : {s : Assignments} → Straight s → Meant s
meant Straight.none = none_meant
meant (Straight.allocate {s = s} q b i l e h) = allocate_meant s b (tidy q) (meant q) h i l
meant (Straight.enter {s = s} q p r a b to k) = enter_meant s p r a b to (tidy q) (meant q) k
meant (Straight.mark {s = s} q x e h) = mark_meant s x (meant q)
meant (Straight.open_next {s = s} q h) = open_meant s (meant q)
