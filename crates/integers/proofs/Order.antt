-- The order of integers, in a form that omega reads: an integer z is plus z − minus z, so an order of integers is a linear order of naturals.
-- A proof cites the ruleset `integers`, as `omega (integers, ..)`, and `suc=`, `pred=` or `add=` for a step by one or a sum that it names.
use Rattle.std.proofs.Common.{◌≡◌, ℕ, zero, suc, ◌+◌, ◌-◌, ◌<◌, ◌≤◌, Bool, true, false, T, eqb, ltb, ◌≢◌, ℤ, pos, negsuc, ◌+ℤ◌, neg_ℤ, nat_abs, ◌≤ℤ◌, ◌<ℤ◌, sym, refl, ap, ◌∙◌, subst, arith, le→leb, eqb→eq, ltb→lt, lt→ltb, leb→le, to_z-of_z, w32, SFits, to_z, of_z, ltb-false, ltb-true}
use lib.IntN.{suc_ℤ, pred_ℤ, sub_ℕ}
use lib.Signed.{le_z, lt_z}
use lib.Dec.{eqb_refl}
use Rattle.integers.specs.Integers.{eq_z, plus, minus}

-- a test that holds, as a fact of naturals
le→ : (a b : ℤ) → T (le_z a b) → plus a + minus b ≤ plus b + minus a
le→ (pos a) (pos b) h = omega (arith, leb→le)
le→ (pos a) (negsuc b) h = absurd h
le→ (negsuc a) (pos b) h = omega arith
le→ (negsuc a) (negsuc b) h = omega (arith, leb→le)

lt→ : (a b : ℤ) → T (lt_z a b) → plus a + minus b < plus b + minus a
lt→ (pos a) (pos b) h = omega (arith, ltb→lt)
lt→ (pos a) (negsuc b) h = absurd h
lt→ (negsuc a) (pos b) h = omega arith
lt→ (negsuc a) (negsuc b) h = omega (arith, ltb→lt)

eq_z→ : (a b : ℤ) → T (eq_z a b) → plus a + minus b ≡ plus b + minus a
eq_z→ (pos a) (pos b) h = omega (arith, eqb→eq)
eq_z→ (pos a) (negsuc b) h = absurd h
eq_z→ (negsuc a) (pos b) h = absurd h
eq_z→ (negsuc a) (negsuc b) h = omega (arith, eqb→eq)

-- and back
→le : (a b : ℤ) → plus a + minus b ≤ plus b + minus a → T (le_z a b)
→le (pos a) (pos b) h = omega (arith, le→leb)
→le (pos a) (negsuc b) h = absurd (omega arith)
→le (negsuc a) (pos b) h = tt
→le (negsuc a) (negsuc b) h = omega (arith, le→leb)

→lt : (a b : ℤ) → plus a + minus b < plus b + minus a → T (lt_z a b)
→lt (pos a) (pos b) h = omega (arith, lt→ltb)
→lt (pos a) (negsuc b) h = absurd (omega arith)
→lt (negsuc a) (pos b) h = tt
→lt (negsuc a) (negsuc b) h = omega (arith, lt→ltb)

pub →eq : (a b : ℤ) → plus a + minus b ≡ plus b + minus a → a ≡ b
→eq (pos a) (pos b) h = ap pos (omega arith)
→eq (pos a) (negsuc b) h = absurd (omega arith)
→eq (negsuc a) (pos b) h = absurd (omega arith)
→eq (negsuc a) (negsuc b) h = ap negsuc (omega arith)

pub eq→ : (a b : ℤ) → a ≡ b → plus a + minus b ≡ plus b + minus a
eq→ a b e = rw e refl

eq_z_refl : (a : ℤ) → T (eq_z a a)
eq_z_refl (pos a) = eqb_refl a
eq_z_refl (negsuc a) = eqb_refl a

→eq_z : (a b : ℤ) → plus a + minus b ≡ plus b + minus a → T (eq_z a b)
→eq_z a b h = subst (λ (z : ℤ). T (eq_z a z)) (→eq a b h) (eq_z_refl a)

-- a flag from what it says, and what it says from the flag
is_true : (b : Bool) → T b → b ≡ true
is_true true t = refl
is_true false t = absurd t

is_false : (b : Bool) → (T b → ⊥) → b ≡ false
is_false true t = absurd (t tt)
is_false false t = refl

says : (b : Bool) → b ≡ true → T b
says b e = subst T (sym e) tt

denies : (b : Bool) → b ≡ false → T b → ⊥
denies b e t = subst T e t

-- the tests as a branch of the code leaves them: equations of the flag
pub le_t : (a b : ℤ) → le_z a b ≡ true → plus a + minus b ≤ plus b + minus a
le_t a b e = le→ a b (says (le_z a b) e)

pub le_f : (a b : ℤ) → le_z a b ≡ false → plus b + minus a < plus a + minus b
le_f a b e = split (ltb (plus b + minus a) (plus a + minus b)) refl
  where
    split : (t : Bool) → ltb (plus b + minus a) (plus a + minus b) ≡ t → plus b + minus a < plus a + minus b
    split true q = ltb-true _ _ q
    split false q = absurd (denies (le_z a b) e (→le a b (ltb-false _ _ q)))

pub lt_t : (a b : ℤ) → lt_z a b ≡ true → plus a + minus b < plus b + minus a
lt_t a b e = lt→ a b (says (lt_z a b) e)

pub lt_f : (a b : ℤ) → lt_z a b ≡ false → plus b + minus a ≤ plus a + minus b
lt_f a b e = split (ltb (plus a + minus b) (plus b + minus a)) refl
  where
    split : (t : Bool) → ltb (plus a + minus b) (plus b + minus a) ≡ t → plus b + minus a ≤ plus a + minus b
    split true q = absurd (denies (lt_z a b) e (→lt a b (ltb-true _ _ q)))
    split false q = ltb-false _ _ q

pub eq_t : (a b : ℤ) → eq_z a b ≡ true → plus a + minus b ≡ plus b + minus a
eq_t a b e = eq_z→ a b (says (eq_z a b) e)

pub eq_f : (a b : ℤ) → eq_z a b ≡ false → plus a + minus b ≢ plus b + minus a
eq_f a b e = λ q. denies (eq_z a b) e (→eq_z a b q)

pub →le_t : (a b : ℤ) → plus a + minus b ≤ plus b + minus a → le_z a b ≡ true
→le_t a b h = is_true (le_z a b) (→le a b h)

pub →le_f : (a b : ℤ) → plus b + minus a < plus a + minus b → le_z a b ≡ false
→le_f a b h = is_false (le_z a b) (λ t. absurd (omega (arith, le→ a b t)))

pub →lt_t : (a b : ℤ) → plus a + minus b < plus b + minus a → lt_z a b ≡ true
→lt_t a b h = is_true (lt_z a b) (→lt a b h)

pub →lt_f : (a b : ℤ) → plus b + minus a ≤ plus a + minus b → lt_z a b ≡ false
→lt_f a b h = is_false (lt_z a b) (λ t. absurd (omega (arith, lt→ a b t)))

pub →eq_t : (a b : ℤ) → plus a + minus b ≡ plus b + minus a → eq_z a b ≡ true
→eq_t a b h = is_true (eq_z a b) (→eq_z a b h)

pub →eq_f : (a b : ℤ) → plus a + minus b ≢ plus b + minus a → eq_z a b ≡ false
→eq_f a b h = is_false (eq_z a b) (λ t. h (eq_z→ a b t))

-- the records of lib.Signed
pub ≤→ : (a b : ℤ) → a ≤ℤ b → plus a + minus b ≤ plus b + minus a
≤→ a b h = le→ a b h.le

pub →≤ : (a b : ℤ) → plus a + minus b ≤ plus b + minus a → a ≤ℤ b
→≤ a b h = record { le = →le a b h }

pub <→ : (a b : ℤ) → a <ℤ b → plus a + minus b < plus b + minus a
<→ a b h = lt→ a b h.lt

pub →< : (a b : ℤ) → plus a + minus b < plus b + minus a → a <ℤ b
→< a b h = record { lt = →lt a b h }

pub ruleset integers = (arith, eq→, →eq, le_t, le_f, lt_t, lt_f, eq_t, eq_f, →eq_t, →eq_f, →le_t, →le_f, →lt_t, →lt_f, ≤→, →≤, <→, →<)

-- one more, one less, a sum, a negative, a magnitude
pub suc= : (a : ℤ) → plus (suc_ℤ a) + minus a ≡ suc (plus a + minus (suc_ℤ a))
suc= (pos n) = omega arith
suc= (negsuc zero) = refl
suc= (negsuc (suc n)) = omega arith

pub pred= : (a : ℤ) → suc (plus (pred_ℤ a) + minus a) ≡ plus a + minus (pred_ℤ a)
pred= (pos zero) = refl
pred= (pos (suc n)) = omega arith
pred= (negsuc n) = omega arith

sub= : (a b : ℕ) → plus (sub_ℕ a b) + b ≡ a + minus (sub_ℕ a b)
sub= a b = go (ltb a b) refl
  where
    go : (t : Bool) → ltb a b ≡ t → plus (sub_ℕ a b) + b ≡ a + minus (sub_ℕ a b)
    go true e = rw e (omega (arith, ltb-true a b e))
    go false e = rw e (omega (arith, ltb-false a b e))

pub add= : (a b : ℤ) → plus (a +ℤ b) + (minus a + minus b) ≡ plus a + plus b + minus (a +ℤ b)
add= (pos a) (pos b) = omega arith
add= (pos a) (negsuc b) = omega (arith, sub= a (suc b))
add= (negsuc a) (pos b) = omega (arith, sub= b (suc a))
add= (negsuc a) (negsuc b) = omega arith

pub neg= : (a : ℤ) → (plus (neg_ℤ a) ≡ minus a) × (minus (neg_ℤ a) ≡ plus a)
neg= (pos zero) = (refl, refl)
neg= (pos (suc n)) = (refl, refl)
neg= (negsuc n) = (refl, refl)

pub abs= : (a : ℤ) → nat_abs a ≡ (plus a - minus a) + (minus a - plus a)
abs= (pos n) = omega arith
abs= (negsuc n) = omega arith

-- a number that an i32 holds, as two bounds, and back
pub fits→ : (z : ℤ) → SFits w32 z → (plus z ≤ 2147483647) × (minus z ≤ 2147483648)
fits→ (pos n) h = omega (arith, h.sfits)
fits→ (negsuc n) h = omega (arith, h.sfits)

pub →fits : (z : ℤ) → plus z ≤ minus z + 2147483647 → minus z ≤ plus z + 2147483648 → SFits w32 z
→fits (pos n) h k = record { sfits = omega arith }
→fits (negsuc n) h k = record { sfits = omega arith }

-- `==` of the code compares the bits
pub bits_eq : {a b : ℤ} → SFits w32 a → SFits w32 b → of_z w32 a ≡ of_z w32 b → a ≡ b
bits_eq f g e = sym (to_z-of_z f) ∙ ap (to_z w32) e ∙ to_z-of_z g
