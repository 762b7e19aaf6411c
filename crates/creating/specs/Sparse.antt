-- Creating from a list, as the code does it: the dense variable first, whose refusals are those of the list, and then the walk.
use Rattle.std.specs.Prelude.{Result, Ok, Err, is_ok, ◌+◌, ◌≤◌, ◌<◌, ◌≡◌, refl, Bool, true, false, List, [], ◌∷◌, ℤ, pos, length, ltb, leb}
use Rattle.std.proofs.Math.Path.{sym, ap}
use Rattle.std.proofs.Common.{◌∙◌, get_or-set_same, ltb-true, ltb-false, leb-true, leb-false}
use Rattle.std.specs.Int.Signed.{lt_z}
use Rattle.std.proofs.Math.ListN.{length-set}
use native.Mathlib.Omega.{arith}
use Rattle.integers.proofs.Order.{integers}
use Rattle.predicates.specs.declared.DomainId.{DomainId}
use Rattle.domains.specs.declared.Bounds.{Bounds}
use Rattle.domains.specs.Choice.{pick}
use Rattle.domains.proofs.Tests.{by_cases}
use Rattle.stories.specs.declared.Refusal.{Refusal}
use Rattle.stores.specs.declared.Variable.{Variable}
use Rattle.stores.specs.declared.Assignments.{Assignments}
use Rattle.stores.specs.Store.{no_variable, recorded, allocated, marked}
use Rattle.stores.specs.Calls.{grow_answer, grow_store, grown, list_answer, list_store, listed}
use Rattle.stories.specs.Calls.{span_of, missing}
use Rattle.stores.proofs.Straight.{Straight, tidy}
use Rattle.stores.proofs.Meaning.{meant}
use Rattle.stores.proofs.Cases.{grow_above, grow_bad, grow_many, grow_full, grow_taken, list_above, list_many, list_full, list_taken}
use Rattle.creating.specs.Parts.{between}
use Rattle.creating.specs.Dense.{dense, grown_dense}
use Rattle.creating.specs.Spans.{Spanned}
use Rattle.creating.specs.Walks.{Walk, Done}

-- an empty list is refused as bounds without a value are
pub nothing_alike : (s : Assignments) (vs : List ℤ) → length vs ≡ 0 →
    (grow_answer s (between (pos 1) (pos 0)) ≡ list_answer s vs) × (grow_store s (between (pos 1) (pos 0)) ≡ list_store s vs)
unfolding grow_answer grow_store list_answer list_store
nothing_alike s [] h = (refl, kept (ltb 0 s.checkpoint))
  where
    kept : (t : Bool) → pick (is_ok {T = DomainId} (pick t (Err Refusal.NotRoot) (Err Refusal.BadDomain))) (grown s (between (pos 1) (pos 0))) s ≡ pick (is_ok {T = DomainId} (pick t (Err Refusal.NotRoot) (Err Refusal.BadDomain))) (listed s []) s
    kept true = refl
    kept false = refl
nothing_alike s (v ∷ vs) h = absurd (omega arith)

-- no answer refuses and is taken
never : {A : Type 0} {a : Result DomainId Refusal} {r : Refusal} {x : DomainId} → a ≡ Err r → a ≡ Ok x → A
never p q = cc

-- what a grow that was not refused tells
pub record Grows (s : Assignments) (b : Bounds) (x : DomainId) : Type 0 where
  pub root : s.checkpoint ≤ 0
  pub few : s.domains < 256
  pub room : s.trail.length + 2 ≤ 1024
  pub number : x ≡ record { 0 = s.domains }
  pub store : grow_store s b ≡ grown s b

module _ (s : Assignments) (b : Bounds) where
  pub grows : (x : DomainId) → grow_answer s b ≡ Ok x → Grows s b x
  grows x made =
      by_cases (ltb 0 s.checkpoint) (λ e. never (sym (grow_above s b (ltb-true _ _ e)).0) made)
      (λ e. by_cases (lt_z b.upper b.lower) (λ f. never (sym (grow_bad s b (ltb-false _ _ e) f).0) made)
      (λ f. by_cases (leb 256 s.domains) (λ g. never (sym (grow_many s b (ltb-false _ _ e) f (leb-true _ _ g)).0) made)
      (λ g. by_cases (ltb 1024 (s.trail.length + 2)) (λ h. never (sym (grow_full s b (ltb-false _ _ e) f (leb-false _ _ g) (ltb-true _ _ h)).0) made)
      (λ h.
      let taken = grow_taken s b (ltb-false _ _ e) f (leb-false _ _ g) (ltb-false _ _ h) in
      record { root = ltb-false _ _ e; few = leb-false _ _ g; room = ltb-false _ _ h; number = cc taken.0; store = sym taken.1 }))))

  -- a refused one leaves the store as it is
  pub grows_not : (r : Refusal) → grow_answer s b ≡ Err r → s ≡ grow_store s b
  unfolding grow_store
  grows_not r e = rw e refl

pub lists_not : (s : Assignments) (vs : List ℤ) → is_ok (list_answer s vs) ≡ false → s ≡ list_store s vs
unfolding list_store
lists_not s vs e = rw e refl

module _ (s : Assignments) (vs : List ℤ) (spanned : Spanned vs) where
  span : Bounds
  span = span_of vs

  good : lt_z span.upper span.lower ≡ false
  unfolding span
  good = omega (integers, spanned.proper)

  -- the cases of a grow with the bounds of a list
  cases : (P : Type 0) → (0 < s.checkpoint → P) → (s.checkpoint ≤ 0 → 256 ≤ s.domains → P) → (s.checkpoint ≤ 0 → s.domains < 256 → 1024 < s.trail.length + 2 → P) → (s.checkpoint ≤ 0 → s.domains < 256 → s.trail.length + 2 ≤ 1024 → P) → P
  cases P above many full taken =
      by_cases (ltb 0 s.checkpoint) (λ e. above (ltb-true _ _ e))
      (λ e. by_cases (leb 256 s.domains) (λ f. many (ltb-false _ _ e) (leb-true _ _ f))
      (λ f. by_cases (ltb 1024 (s.trail.length + 2)) (λ g. full (ltb-false _ _ e) (leb-false _ _ f) (ltb-true _ _ g))
      (λ g. taken (ltb-false _ _ e) (leb-false _ _ f) (ltb-false _ _ g))))

  -- a refused grow is refused as the list is
  pub refused_alike : (r : Refusal) → grow_answer s (span_of vs) ≡ Err r → (grow_answer s (span_of vs) ≡ list_answer s vs) × (grow_store s (span_of vs) ≡ list_store s vs)
  unfolding span
  refused_alike r e =
      cases ((grow_answer s span ≡ list_answer s vs) × (grow_store s span ≡ list_store s vs))
      (λ above. alike (grow_above s span above) (list_above s vs above))
      (λ root many. alike (grow_many s span root good many) (list_many s vs root spanned.some many))
      (λ root few full. alike (grow_full s span root good few full) (list_full s vs root spanned.some few (omega arith)))
      (λ root few room. never e (sym (grow_taken s span root good few room).0))
    where
      alike : {o : Result DomainId Refusal} → (o ≡ grow_answer s span) × (s ≡ grow_store s span) → (o ≡ list_answer s vs) × (s ≡ list_store s vs) → (grow_answer s span ≡ list_answer s vs) × (grow_store s span ≡ list_store s vs)
      alike p q = (sym p.0 ∙ q.0, sym p.1 ∙ q.1)

  -- the variable x was made, and g is the store with it
  module _ (x : DomainId) (g : Assignments) (made : grow_answer s (span_of vs) ≡ Ok x) (is : g ≡ grow_store s (span_of vs)) where
    tells : Grows s span x
    unfolding span
    tells = grows s span x made

    number : x.0 ≡ s.domains
    number = ap (λ (y : DomainId). y.0) tells.number

    store : g ≡ grown s span
    unfolding span
    store = is ∙ tells.store

    long : g.trail.length ≡ s.trail.length + 2
    unfolding grown recorded allocated
    long = ap (λ (t : Assignments). t.trail.length) store ∙ omega arith

    -- the walk begins there
    pub walk_start : Straight s → Walk vs g x.0 (span_of vs).lower g
    unfolding dense span
    walk_start q =
        rw (number, store ∙ grown_dense s span (omega (arith, tells.few, (tidy q).long_variables)))
        (record {
          there = tells.few;
          low = spanned.low;
          high = spanned.high;
          bounds = ap (λ (y : Variable). y.bounds) (get_or-set_same s.variables s.domains _ no_variable (omega (arith, tells.few, (tidy q).long_variables)));
          variables = length-set s.variables s.domains _ ∙ (tidy q).long_variables;
          holes = omega (arith, (tidy q).holes.short);
          count = omega (arith, (meant q).small);
          short = omega (arith, tells.room);
          below = spanned.proper;
          same = refl;
          long = refl;
        })

    -- where it gives up, the list is refused
    pub full_alike : 1024 < g.trail.length + length (missing vs) → (Err Refusal.TrailFull ≡ list_answer s vs) × (s ≡ list_store s vs)
    full_alike h = list_full s vs tells.root spanned.some tells.few (omega (arith, long))

    -- where it comes to the end, the list is taken, once the mark is set
    module _ (r : Assignments) (done : Done vs g x.0 r) where
      pub mark_there : (x.0 < 256) × (0 < r.trail.length) × (r.trail.length < 1025)
      mark_there = (omega (arith, number, tells.few), omega (arith, done.long, long), omega (arith, done.short))

      pub taken_alike : (Ok x ≡ list_answer s vs) × (marked r x.0 ≡ list_store s vs)
      unfolding listed span
      taken_alike =
          let taken = list_taken s vs tells.root spanned.some tells.few (omega (arith, done.long, done.short, long)) in
          (ap Ok tells.number ∙ taken.0, rw (done.same, number, store) taken.1)
