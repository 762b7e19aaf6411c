-- How a chain is taken apart, and what a push does to it: the new update leads its own variable's chain, and no other chain sees it.
-- Tools: a reader of the promises need believe nothing here. Assumes nothing.
use Prim.Native.Nat.{ℕ, zero, suc, ◌-◌, ◌≤◌, ◌<◌}
use mathlib.Core.Path.{◌≡◌, refl, sym, ap, ◌∙◌}
use mathlib.Core.Bool.{Bool, true, false}
use mathlib.Core.List.{List, [], ◌∷◌}
use lib.ListN.{length, get_or, set}
use lib.Seq.{get_or-set_same, get_or-set_other}
use lib.Dec.{ltb, eqb}
use borrow.Author.Tests.{ltb-true, ltb-false, eq-eqb, ne_eqb}
use native.Mathlib.Omega.{arith}
use Rattle.domains.specs.Choice.{pick}
use Rattle.pools.specs.declared.Update.{Update}
use Rattle.pools.specs.Chain.{no_update, chain, chain_of, values_of}

module _ (cells : List Update) where
  -- places from the link on are passed over
  pub skip : (k m link : ℕ) → link ≤ k → k ≤ m → chain cells m link ≡ chain cells k link
  unfolding chain
  skip k zero link h g = let e : 0 ≡ k = omega arith in ap (λ (n : ℕ). chain cells n link) e
  skip k (suc m) link h g = go (ltb m k) refl (λ le. skip k m link h le)
    where
      go : (t : Bool) → ltb m k ≡ t → (k ≤ m → chain cells m link ≡ chain cells k link) → chain cells (suc m) link ≡ chain cells k link
      go true q further = let e : suc m ≡ k = omega (arith, ltb-true) in ap (λ (n : ℕ). chain cells n link) e
      go false q further =
          let le : k ≤ m = ltb-false _ _ q in
          let other : eqb link (suc m) ≡ false = ne_eqb _ _ (λ (e : link ≡ suc m). omega arith) in
          rw other (further le)

  -- a link leads to its place, and from there on below it
  at_place : (n i : ℕ) → i < n → chain cells n (suc i) ≡ get_or cells i no_update ∷ chain cells i (get_or cells i no_update).previous
  unfolding chain
  at_place n i h = skip (suc i) n (suc i) (omega arith) h ∙ rw (eq-eqb (suc i) (suc i) refl)

  -- the same of a link as the code has it
  pub one_step : (n link : ℕ) → 0 < link → link ≤ n → chain cells n link ≡ get_or cells (link - 1) no_update ∷ chain cells (link - 1) (get_or cells (link - 1) no_update).previous
  one_step n link h g =
      let e : link ≡ suc (link - 1) = omega arith in
      ap (chain cells n) e ∙ at_place n (link - 1) (omega arith)

  -- 0 leads nowhere
  pub no_link : (n : ℕ) → chain cells n 0 ≡ []
  unfolding chain
  no_link n = skip 0 n 0 (omega arith) (omega arith)

  -- nor does a link past the places
  pub past_end : (n link : ℕ) → n < link → chain cells n link ≡ []
  unfolding chain
  past_end zero link h = refl
  past_end (suc n) link h = let other : eqb link (suc n) ≡ false = ne_eqb _ _ (λ (e : link ≡ suc n). omega arith) in rw other (past_end n link (omega arith))

  -- a chain has no more updates than there are places
  pub chain_short : (n link : ℕ) → length (values_of (chain cells n link)) ≤ n
  unfolding chain
  chain_short zero link = omega arith
  chain_short (suc n) link = go (eqb link (suc n)) (chain_short n (get_or cells n no_update).previous) (chain_short n link)
    where
      go :
          (t : Bool) → length (values_of (chain cells n (get_or cells n no_update).previous)) ≤ n → length (values_of (chain cells n link)) ≤ n
          → length (values_of (pick t (get_or cells n no_update ∷ chain cells n (get_or cells n no_update).previous) (chain cells n link))) ≤ suc n
      go true here there = omega arith
      go false here there = omega arith

  -- a store past the places is not seen
  pub outside : (i : ℕ) (u : Update) (n link : ℕ) → n ≤ i → chain (set cells i u) n link ≡ chain cells n link
  unfolding chain
  outside i u zero link h = refl
  outside i u (suc n) link h =
      let same : get_or (set cells i u) n no_update ≡ get_or cells n no_update = get_or-set_other cells i n u no_update (λ e. omega arith) in
      let on : chain (set cells i u) n (get_or cells n no_update).previous ≡ chain cells n (get_or cells n no_update).previous = outside i u n _ (omega arith) in
      rw (same, on, outside i u n link (omega arith))

module _ (cells : List Update) (n : ℕ) (u : Update) where
  -- among the places below n, a store at n leaves every chain as it was
  below : (link : ℕ) → link ≤ n → n < 1024 → chain (set cells n u) n link ≡ chain_of cells link
  below link h g = outside cells n u n link (omega arith) ∙ sym (skip cells n 1024 link h (omega arith))

  -- the pushed update is the newest of its own chain
  pub chain_pushed_own : n < length cells → n < 1024 → u.previous ≤ n → chain_of (set cells n u) (suc n) ≡ u ∷ chain_of cells u.previous
  chain_pushed_own h g k =
      let here : get_or (set cells n u) n no_update ≡ u = get_or-set_same cells n u no_update h in
      at_place (set cells n u) 1024 n g ∙ rw (here, below u.previous k g)

  -- and no other chain sees it
  pub chain_pushed_other : (link : ℕ) → link ≤ n → n < 1024 → chain_of (set cells n u) link ≡ chain_of cells link
  chain_pushed_other link h g = skip (set cells n u) n 1024 link h (omega arith) ∙ below link h g
