-- The promises of Promises.antt, kept: each question asks a domain whose values are those that remain and whose bounds are tight, by the
-- position law of stores; and what a tight domain tells is about its values, by the truth law of domains.
use Rattle.std.specs.Prelude.{Option, Some, None, Result, Ok}
use mathlib.Core.Path.{◌≡◌, refl, sym, ap, ◌∙◌}
use mathlib.Core.Logic.{◌↔◌}
use mathlib.Core.Bool.{Bool, true, false}
use lib.IntN.{ℤ}
use lib.Dec.{leb}
use lib.Signed.{le_z, lt_z, ◌≤ℤ◌}
use borrow.Author.Tests.{le-leb, lt-leb, leb-false}
use Rattle.integers.proofs.Order.{integers}
use Rattle.predicates.specs.declared.PredicateType.{PredicateType}
use Rattle.domains.specs.Domain.{Domain, member, emptied}
use Rattle.domains.proofs.Tests.{by_cases, clash}
use Rattle.domains.proofs.Membership.{left}
use Rattle.domains.specs.Promises.{Tight}
use Rattle.domains.proofs.Laws.{empty_law}
use Rattle.domains.specs.Truth.{Truth, truth_of}
use Rattle.domains.specs.Truth.Truth.{holds, fails, open'}
use Rattle.domains.proofs.TruthLaws.{truth_law, emptied_truth_law}
use Rattle.stores.specs.Store.{domain_of}
use Rattle.stores.specs.Positions.{domain_at}
use Rattle.stores.proofs.Kept as Stores
use Rattle.stories.specs.declared.Refusal.{Refusal}
use Rattle.stories.specs.Questions.{in_words, lowest, highest, contains, is_one, assigned_value, truth}
use Rattle.questions.specs.Promises.{remains_at, remains_now, SomeLeft, NoneLeft, Only, All, Said, About, PositionLaw, NowLaw, PastLaw, RefusalLaw}

pub refusal_law : RefusalLaw
refusal_law A s x answer = (λ h. rw (le-leb _ _ h), λ h. rw (lt-leb _ _ h))

-- what a domain tells, said
said : Domain → Said
said d = record { lower = Ok (lowest d); upper = Ok (highest d); inside = λ v. Ok (contains v d); fixed = Ok (is_one d); value = Ok (assigned_value d); evaluated = λ k v. Ok (truth k v d) }

-- a truth, said
told : Truth → Result (Option Bool) Refusal
told t = Ok (in_words t)

-- the words of a truth fit what it means: there are three, and open is neither of the others
spoken :
    {A B : Type 0} (t : Truth) → ((t ≡ holds) ↔ A) → ((t ≡ fails) ↔ B) →
    ((told t ≡ Ok (Some true)) ↔ A) × ((told t ≡ Ok (Some false)) ↔ B) × ((told t ≡ Ok None) ↔ ((A → ⊥) × (B → ⊥)))
unfolding told
spoken holds h f =
    ((λ e. h.0 refl, λ a. refl), (λ e. clash refl (cc), λ b. cc (f.1 b)), (λ e. clash refl (cc), λ n. absurd (n.0 (h.0 refl))))
spoken fails h f =
    ((λ e. clash refl (cc), λ a. cc (h.1 a)), (λ e. f.0 refl, λ b. refl), (λ e. clash refl (cc), λ n. absurd (n.1 (f.0 refl))))
spoken open' h f =
    ((λ e. clash refl (cc), λ a. cc (h.1 a)), (λ e. clash refl (cc), λ b. cc (f.1 b)), (λ e. (λ a. clash refl (cc (h.1 a)), λ b. clash refl (cc (f.1 b))), λ n. refl))

-- a tight domain tells of its values
module _ (remain : ℤ → Bool) (d : Domain) (t : Tight d) (is : (v : ℤ) → member d v ≡ remain v) where
  -- some remain exactly where lower is at most upper
  some : SomeLeft remain → d.lower ≤ℤ d.upper
  some w = let i = left d w.0 (is w.0 ∙ w.1) in omega integers

  none : NoneLeft remain → emptied d ≡ true
  none n = (empty_law d t).1 (λ v. is v ∙ n v)

  -- v alone remains exactly where it is both bounds
  only : (v : ℤ) → is_one d ≡ true → d.lower ≡ v → Only remain v
  only v e l = (rw l at (sym (is d.lower) ∙ t.least (omega integers)), λ x m. let i = left d x (is x ∙ m) in omega integers)

  one : (v : ℤ) → Only remain v → (is_one d ≡ true) × (d.lower ≡ v)
  one v w =
      let h = some (v, w.0) in
      let l = w.1 d.lower (sym (is d.lower) ∙ t.least h) in
      let u = w.1 d.upper (sym (is d.upper) ∙ t.most h) in
      (omega integers, l)

  evaluated : SomeLeft remain → (k : PredicateType) (v : ℤ) →
      ((told (truth_of k v d) ≡ Ok (Some true)) ↔ All remain k v true) × ((told (truth_of k v d) ≡ Ok (Some false)) ↔ All remain k v false)
      × ((told (truth_of k v d) ≡ Ok None) ↔ ((All remain k v true → ⊥) × (All remain k v false → ⊥)))
  evaluated w k v =
      let h = some w in
      let law = truth_law k v d t (omega integers) in
      spoken (truth_of k v d)
      (λ e x m. law.0.0 e x (is x ∙ m), λ a. law.0.1 (λ x m. a x (sym (is x) ∙ m)))
      (λ e x m. law.1.0 e x (is x ∙ m), λ a. law.1.1 (λ x m. a x (sym (is x) ∙ m)))

  about : About remain (said d)
  unfolding said told truth_of
  about = record {
    member = λ v. ap Ok (is v);
    least = λ w. (d.lower, refl, sym (is d.lower) ∙ t.least (some w), λ v m. (left d v (is v ∙ m)).above);
    greatest = λ w. (d.upper, refl, sym (is d.upper) ∙ t.most (some w), λ v m. (left d v (is v ∙ m)).below);
    fixed = (
      λ e. (d.lower, by_cases (is_one d) (λ o. only d.lower o refl) (λ o. clash refl (cc (rw o at e)))),
      λ w. rw (one w.0 w.1).0,
    );
    value = λ v. (
      λ e. by_cases (is_one d) (λ o. only v o (cc (rw o at e))) (λ o. clash refl (cc (rw o at e))),
      λ w. let o = one v w in rw (o.0, o.1),
    );
    holds = λ w k v. (evaluated w k v).0;
    fails = λ w k v. (evaluated w k v).1;
    open' = λ w k v. (evaluated w k v).2;
    none_not = λ n v. ap told (emptied_truth_law v d (none n)).0;
    none_equal = λ n v. ap told (emptied_truth_law v d (none n)).1;
    none_at_least = λ n v l e.
        let h = none n in
        let same : d.lower ≡ l = cc in
        by_cases (le_z v d.lower) (λ q. rw (← same, q)) (λ q. let f : lt_z d.upper v ≡ true = omega integers in rw (← same, q, f));
    none_at_most = λ n v u e.
        let h = none n in
        let same : d.upper ≡ u = cc in
        by_cases (le_z d.upper v) (λ q. rw (← same, q)) (λ q. let f : lt_z v d.lower ≡ true = omega integers in rw (← same, q, f));
  }

pub position_law : PositionLaw
unfolding said
position_law s made x p there =
    let law = Stores.position_law s made x p there in
    rw (lt-leb _ _ there) (about (remains_at s x p) (domain_at s x p) law.1 law.0)

pub now_law : NowLaw
unfolding said
now_law s made x there =
    rw (lt-leb _ _ there) (about (remains_now s x) (domain_of s x) (Stores.bounds_law s made x there).0 (Stores.replay_law s made x there))

pub past_law : PastLaw
unfolding said
past_law s made x p late =
    by_cases (leb s.domains x) (λ e. rw e)
    (λ e. let same = (Stores.position_law s made x p (leb-false _ _ e)).2 late in rw (e, same))
