-- The promises of Promises.antt: a run goes along its lines, a bad line has one case in each definition, and no trail has more than 1,024 entries.
use Prim.Native.Nat.{ℕ, suc, ◌+◌}
use mathlib.Core.Bool.{Bool, true, false}
use mathlib.Core.Path.{◌≡◌, refl, sym, ap, ◌∙◌}
use mathlib.Core.List.{List, [], ◌∷◌, ◌++◌, append_assoc}
use native.Mathlib.Nat.{add-zero}
use native.Mathlib.Omega.{arith}
use lib.Dec.{leb, ltb}
use lib.ListN.{length}
use borrow.Author.Tests.{lt-leb, le-ltb}
use Rattle.domains.specs.Choice.{pick}
use Rattle.stores.specs.declared.Assignments.{Assignments}
use Rattle.stories.specs.declared.Refusal.TheVariants.{NotLower, NoRoom}
use Rattle.std.specs.Prelude.{Ok, Err}
use Rattle.stores.specs.Calls.{entries_above, unfixed, synchronise_answer}
use Rattle.stores.proofs.Straight.{tidy}
use Rattle.stores.proofs.History.{straight}
use Rattle.commands.specs.Values.{values_of}
use Rattle.driver.specs.Lines.{command_store, command_reply, command_pairs, command_text, line_store, line_text}
use Rattle.driver.specs.Runs.{run_store, run_text}
use Rattle.driver.specs.Promises.{RunLaw, BadLaw, LongLaw, RoomLaw, SameLaw}

run_stores : (s : Assignments) (before after : List (List ℕ)) → run_store s (before ++ after) ≡ run_store (run_store s before) after
unfolding run_store
run_stores s [] after = refl
run_stores s (line ∷ before) after = run_stores (line_store s line) before after

run_texts : (number : ℕ) (s : Assignments) (before after : List (List ℕ)) → run_text number s (before ++ after) ≡ run_text number s before ++ run_text (number + length before) (run_store s before) after
unfolding run_store run_text
run_texts number s [] after = ap (λ (n : ℕ). run_text n s after) (sym (add-zero number))
run_texts number s (line ∷ before) after =
    let next : suc number + length before ≡ number + suc (length before) = omega arith in
    ap (λ (t : List ℕ). line_text number s line ++ t) (run_texts (suc number) (line_store s line) before after ∙ ap (λ (n : ℕ). run_text (suc number) (line_store s line) before ++ run_text n (run_store (line_store s line) before) after) next)
    ∙ sym (append_assoc (line_text number s line) _ _)

pub run_law : RunLaw
run_law number s before after = (run_stores s before after, run_texts number s before after)

pub bad_law : BadLaw
unfolding line_store line_text command_store command_reply command_pairs command_text
bad_law number s line bad = (ap (command_store s (values_of line)) bad, ap (command_text number s (values_of line)) bad, refl)

pub long_law : LongLaw
long_law line long = rw (lt-leb (length line) 200 long) refl

never : ◌≡◌ {A = ℕ} 0 1 → ⊥
never e = absurd (omega arith)

pub room_law : RoomLaw
unfolding synchronise_answer
room_law s made k e =
    let enough : ltb 1024 (entries_above s k) ≡ false = le-ltb 1024 (entries_above s k) (omega (arith, (tidy (straight made)).entries)) in
    go (leb s.checkpoint k) (rw enough at e)
  where
    go : (high : Bool) → pick high (Err NotLower) (Ok (length (unfixed (entries_above s k) s))) ≡ Err NoRoom → ⊥
    go true q = never cc
    go false q = never cc

pub same_law : SameLaw
same_law s first input before r other after afterwards one two = (
  λ i. record {
    store = (one.store ∙ sym two.store) i;
    number = (one.number ∙ sym two.number) i;
    read = (one.read ∙ sym two.read) i;
    written = (one.written ∙ sym two.written) i;
  },
  one.output ∙ sym two.output,
)
