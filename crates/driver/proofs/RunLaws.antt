-- One line more: what is still to come after the lines before is that line and what is to come after it.
use Prim.Native.Nat.{ℕ, zero, suc, ◌+◌, ◌-◌, ◌<◌, ◌≤◌}
use mathlib.Core.Bool.{Bool, true, false}
use mathlib.Core.Path.{◌≡◌, refl, sym, ap, ◌∙◌}
use mathlib.Core.List.{List, [], ◌∷◌, ◌++◌, append_assoc, append-nil}
use native.Mathlib.Numerals.{add-one}
use native.Mathlib.Omega.{arith}
use lib.Dec.{leb, eqb}
use lib.ListN.{length, get_or, take, drop, length-append, length-take, length-drop}
use lib.Seq.{sets, length-sets, get_or-drop, drop-drop}
use borrow.Author.Tests.{le-leb, lt-leb, eq-eqb, ne_eqb}
use Rattle.domains.specs.Choice.{pick}
use Rattle.stores.specs.declared.Assignments.{Assignments}
use Rattle.stores.specs.Made.{Made}
use Rattle.lines.specs.Writing.{Put}
use Rattle.lines.proofs.WritingLaws.{put_nothing, put_more, put_past, put_length}
use Rattle.driver.specs.Lines.{line_store, line_text}
use Rattle.driver.specs.declared.answering.Answered.{Answered}
use Rattle.driver.specs.Runs.{lines_from, ended, run_store, run_text, room_for, answered, EndsAt, Ran}

-- ---- the lines of a text

-- the first line ends at the first LF
lines_next : (text : List ℕ) (n : ℕ) (begun : List ℕ) → n < length text → ((k : ℕ) → k < n → get_or text k 0 ≡ 10 → ⊥) → get_or text n 0 ≡ 10 → lines_from begun text ≡ (begun ++ take n text) ∷ lines_from [] (drop (suc n) text)
unfolding lines_from
lines_next [] n begun h unbroken broken = absurd (omega arith)
lines_next (b ∷ text) zero begun h unbroken broken = rw (eq-eqb b 10 broken, append-nil begun) refl
lines_next (b ∷ text) (suc n) begun h unbroken broken =
    rw (ne_eqb b 10 (unbroken 0 (omega arith)))
    (lines_next text n (begun ++ (b ∷ [])) (omega arith) (λ k less lf. unbroken (suc k) (omega arith) lf) broken ∙ ap (λ (l : List ℕ). l ∷ lines_from [] (drop (suc n) text)) (append_assoc begun (b ∷ []) (take n text)))

-- a text without LF has none
lines_none : (text begun : List ℕ) → ((k : ℕ) → k < length text → get_or text k 0 ≡ 10 → ⊥) → lines_from begun text ≡ []
unfolding lines_from
lines_none [] begun unbroken = refl
lines_none (b ∷ text) begun unbroken = rw (ne_eqb b 10 (unbroken 0 (omega arith))) (lines_none text (begun ++ (b ∷ [])) (λ k less lf. unbroken (suc k) (omega arith) lf))

-- the lines have no more bytes than the text
lines_inside : (text begun : List ℕ) → length (ended (lines_from begun text)) ≤ length begun + length text
unfolding lines_from ended
lines_inside [] begun = omega arith
lines_inside (b ∷ text) begun = go (eqb b 10) (omega (arith, lines_inside text [])) (lines_inside text (begun ++ (b ∷ [])))
  where
    go : (lf : Bool) → length (ended (lines_from [] text)) ≤ length text → length (ended (lines_from (begun ++ (b ∷ [])) text)) ≤ length (begun ++ (b ∷ [])) + length text → length (ended (pick lf (begun ∷ lines_from [] text) (lines_from (begun ++ (b ∷ [])) text))) ≤ length begun + length (b ∷ text)
    go true anew on = rw (length-append begun) (omega arith)
    go false anew on = omega (arith, length-append begun (b ∷ []))

-- each line has at least the byte that ends it
few_lines : (lines : List (List ℕ)) → length lines ≤ length (ended lines)
unfolding ended
few_lines [] = omega arith
few_lines (l ∷ lines) = rw (length-append l) (omega (arith, few_lines lines))

-- the end of the line in what is left of an input is its end in the input
pub ends_past : {input left : List ℕ} {from size : ℕ} → left ≡ drop from input → from ≤ length input → EndsAt left 0 size → EndsAt input from (from + size)
ends_past {input} {left} {from} {size} is inside e =
    let same = (λ (k : ℕ). ap (λ (l : List ℕ). get_or l k 0) is ∙ get_or-drop from input k 0) in
    let long : length left ≡ length input - from = ap length is ∙ length-drop from input in
    record {
      later = omega arith;
      inside = λ h. omega (arith, e.inside (omega arith), long);
      unbroken = λ k low high lf.
          let place : from + (k - from) ≡ k = omega arith in
          e.unbroken (k - from) (omega arith) (omega arith) (same (k - from) ∙ ap (λ (n : ℕ). get_or input n 0) place ∙ lf);
      broken = λ there. sym (same size) ∙ e.broken (omega (arith, long));
    }

-- ---- the lines for which there is room

room_inside : (lines : List (List ℕ)) (number : ℕ) (s : Assignments) (room : ℕ) → length (ended (room_for number s room lines)) ≤ length (ended lines)
unfolding room_for ended
room_inside [] number s room = omega arith
room_inside (l ∷ lines) number s room = go (leb 34000 room) (room_inside lines (suc number) (line_store s l) (room - length (line_text number s l)))
  where
    go : (enough : Bool) → length (ended (room_for (suc number) (line_store s l) (room - length (line_text number s l)) lines)) ≤ length (ended lines) → length (ended (pick enough (l ∷ room_for (suc number) (line_store s l) (room - length (line_text number s l)) lines) [])) ≤ length (ended (l ∷ lines))
    go true fewer = simp length-append (omega arith)
    go false fewer = omega arith

room_none : (lines : List (List ℕ)) (number : ℕ) (s : Assignments) (room : ℕ) → room < 34000 → room_for number s room lines ≡ []
unfolding room_for
room_none [] number s room h = refl
room_none (l ∷ lines) number s room h = rw (lt-leb 34000 room h) refl

-- ---- the run

-- what is still to come
abbrev pub coming : List ℕ → List ℕ → Assignments → ℕ → ℕ → ℕ → List (List ℕ)
coming input before store number read written = room_for number store (length before - written) (lines_from [] (drop read input))

-- where a run stands: what is still to come, after what was done, is the whole of it
pub record Going (s : Assignments) (first : ℕ) (input before : List ℕ) (store : Assignments) (number read written : ℕ) (out : List ℕ) : Type 0 where
  pub done : List ℕ
  pub made : Made store
  pub inside : read ≤ length input
  pub small : number ≤ first + read
  pub within : written ≤ length before
  pub whole : written ≡ length done
  pub put : Put before 0 done out written
  pub stored : run_store store (coming input before store number read written) ≡ run_store s (answered s first input before)
  pub counted : number + length (coming input before store number read written) ≡ first + length (answered s first input before)
  pub taken : read + length (ended (coming input before store number read written)) ≡ length (ended (answered s first input before))
  pub text : done ++ run_text number store (coming input before store number read written) ≡ run_text first s (answered s first input before)

pub going_first : (s : Assignments) (first : ℕ) (input before : List ℕ) → Made s → Going s first input before s first 0 0 before
going_first s first input before made =
    let all : length before - 0 ≡ length before = omega arith in
    record {
      done = [];
      made = made;
      inside = omega arith;
      small = omega arith;
      within = omega arith;
      whole = refl;
      put = put_nothing before 0;
      stored = rw all refl;
      counted = rw all refl;
      taken = rw all (omega arith);
      text = rw all refl;
    }

module _ {s store : Assignments} {first number read written : ℕ} {input before out : List ℕ} (g : Going s first input before store number read written out) where
  -- where nothing is to come, all is done
  going_last : coming input before store number read written ≡ [] → Ran s first input before (record { store = store; number = number; read = read; written = written }) out
  unfolding run_store run_text ended
  going_last none =
      let stored = rw none at g.stored in
      let counted = rw none at g.counted in
      let taken = rw none at g.taken in
      let text = rw (none, append-nil g.done) at g.text in
      record {
        store = stored;
        number = omega (arith, counted);
        read = omega (arith, taken);
        written = g.whole ∙ ap length text;
        output = g.put.written ∙ ap (sets before 0) text;
        made = g.made;
        within = g.within;
      }

  pub going_full : length before - written < 34000 → Ran s first input before (record { store = store; number = number; read = read; written = written }) out
  going_full full = going_last (room_none (lines_from [] (drop read input)) number store (length before - written) full)

  pub going_out : (end : ℕ) → EndsAt input read end → end ≡ length input → Ran s first input before (record { store = store; number = number; read = read; written = written }) out
  unfolding room_for
  going_out end e all =
      let none : lines_from [] (drop read input) ≡ [] = lines_none (drop read input) [] (λ k less lf. e.unbroken (read + k) (omega arith) (omega (arith, less, length-drop read input, all)) (sym (get_or-drop read input k 0) ∙ lf)) in
      going_last (ap (room_for number store (length before - written)) none)

  -- one line more
  module _ {end next : ℕ} {after : List ℕ} (e : EndsAt input read end) (there : end < length input) (enough : 34000 ≤ length before - written) (afterwards : Assignments) (stored : afterwards ≡ line_store store (take (end - read) (drop read input))) (made : Made afterwards) (put : Put out written (line_text number store (take (end - read) (drop read input))) after next) (short : length (line_text number store (take (end - read) (drop read input))) ≤ 34000) where
    abbrev line : List ℕ
    line = take (end - read) (drop read input)

    abbrev printed : List ℕ
    printed = line_text number store line

    -- the whole answer had room
    next_is : next ≡ written + length printed
    next_is = put_past put (omega (arith, put_length g.put, g.within))

    rest_is : coming input before store number read written ≡ line ∷ coming input before afterwards (number + 1) (end + 1) next
    unfolding room_for
    rest_is =
        let at_end : read + (end - read) ≡ end = omega (arith, e.later) in
        let split : lines_from [] (drop read input) ≡ line ∷ lines_from [] (drop (suc (end - read)) (drop read input)) = lines_next (drop read input) (end - read) [] (omega (arith, length-drop read input, e.later)) (λ k less lf. e.unbroken (read + k) (omega arith) (omega arith) (sym (get_or-drop read input k 0) ∙ lf)) (get_or-drop read input (end - read) 0 ∙ ap (λ (k : ℕ). get_or input k 0) at_end ∙ e.broken there) in
        let to_end : read + suc (end - read) ≡ end + 1 = omega (arith, e.later) in
        let past : drop (suc (end - read)) (drop read input) ≡ drop (end + 1) input = drop-drop (suc (end - read)) read input ∙ ap (λ (k : ℕ). drop k input) to_end in
        let left : length before - written - length printed ≡ length before - next = omega (arith, next_is) in
        ap (room_for number store (length before - written)) split
        ∙ rw (le-leb 34000 (length before - written) enough)
        (λ i. line ∷ room_for (sym (add-one number) i) (sym stored i) (left i) (lines_from [] (past i)))

    pub going_more : Going s first input before afterwards (number + 1) (end + 1) next after
    unfolding run_store run_text ended
    going_more =
        let kept = rw rest_is at g.stored in
        let counted = rw rest_is at g.counted in
        let taken = rw (rest_is, length-append line) at g.taken in
        let text = rw rest_is at g.text in
        record {
          done = g.done ++ printed;
          made = made;
          inside = omega arith;
          small = omega (arith, g.small, e.later);
          within = omega (arith, next_is, g.within);
          whole = next_is ∙ omega (arith, g.whole, length-append g.done printed);
          put = put_more g.put put;
          stored = ap (λ (m : Assignments). run_store m (coming input before afterwards (number + 1) (end + 1) next)) stored ∙ kept;
          counted = omega (arith, counted);
          taken = omega (arith, taken, e.later, length-take (end - read) (drop read input), length-drop read input);
          text = append_assoc g.done printed _ ∙ (λ i. g.done ++ (printed ++ run_text (add-one number i) (stored i) (coming input before afterwards (number + 1) (end + 1) next))) ∙ text;
        }

-- the run is told by the length of what was written, and by what the buffer holds in the end
pub ran_left : {s store : Assignments} {first number read written next : ℕ} {input before out after : List ℕ} → Ran s first input before (record { store = store; number = number; read = read; written = written }) out → next ≡ written → after ≡ out → Ran s first input before (record { store = store; number = number; read = read; written = next }) after
ran_left ran length held = rw (length, held) ran

-- what a caller's sums need: the number rises by no more than the bytes that were read, these are in the input, and the buffer is as long as before
module _ {s : Assignments} {first : ℕ} {input before after : List ℕ} {r : Answered} (ran : Ran s first input before r after) where
  pub ran_inside : r.read ≤ length input
  ran_inside = omega (arith, ran.read, room_inside (lines_from [] input) first s (length before), lines_inside input [])

  pub ran_number : r.number ≤ first + r.read
  ran_number = omega (arith, ran.number, ran.read, few_lines (answered s first input before))

  pub ran_length : length after ≡ length before
  ran_length = ap length ran.output ∙ length-sets before 0 (run_text first s (answered s first input before))
