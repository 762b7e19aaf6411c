-- Writing one text and then another past it writes the two together: stores go on where the first ended, and a store past the buffer's end changes nothing.
use Prim.Native.Nat.{ℕ, suc, ◌+◌, ◌-◌, ◌<◌, ◌≤◌}
use mathlib.Core.Path.{◌≡◌, refl, sym, ap, ◌∙◌}
use mathlib.Core.List.{List, [], ◌∷◌, ◌++◌, append_assoc}
use mathlib.Core.Logic.{⊎_elim}
use native.Mathlib.Nat.{add-zero}
use native.Mathlib.Omega.{arith}
use lib.ListN.{length, take, drop, length-append}
use lib.Seq.{sets, set_out, length-sets, sets-eq, drop_at, length-take-le, take-append_seam}
use Rattle.lines.specs.declared.writing.Writer.{Writer}
use Rattle.lines.specs.Writing.{Put, Wrote}
use Rattle.lines.proofs.Cases.{below_or_not}

-- a run of stores goes on where another ended
stores_go_on : (a l : List ℕ) (i : ℕ) (b : List ℕ) → sets (sets l i a) (i + length a) b ≡ sets l i (a ++ b)
stores_go_on [] l i b = rw add-zero
stores_go_on (x ∷ a) l i b =
    let next : i + length (x ∷ a) ≡ suc i + length a = omega arith in
    ap (λ (k : ℕ). sets (sets l i (x ∷ a)) k b) next ∙ stores_go_on a _ (suc i) b

-- stores past the end change nothing
pub stores_past : {A : Type 0} (vs l : List A) (i : ℕ) → length l ≤ i → sets l i vs ≡ l
stores_past [] l i h = refl
stores_past (x ∷ vs) l i h = rw (set_out l i x h) (stores_past vs l (suc i) (omega arith))

pub put_length : {before text after : List ℕ} {at next : ℕ} → Put before at text after next → length after ≡ length before
put_length {before} {text} {after} {at} p = ap length p.written ∙ length-sets before at text

pub put_nothing : (buffer : List ℕ) (at : ℕ) → Put buffer at [] buffer at
put_nothing buffer at = record { written = refl; past = omega arith }

pub put_more : {start middle end first second : List ℕ} {at next past : ℕ} → Put start at first middle next → Put middle next second end past → Put start at (first ++ second) end past
put_more {start} {middle} {end} {first} {second} {at} {next} p q =
    let goes_on = stores_go_on first start at second in
    let kept = put_length p in
    record {
      written =
          q.written
          ∙ ⊎_elim
          (λ (short : length start - at < length first). stores_past second middle next (omega (arith, p.past)) ∙ p.written ∙ sym (stores_past second _ _ (simp length-sets (omega arith))) ∙ goes_on)
          (λ (room : length first ≤ length start - at). rw p.written (ap (λ (k : ℕ). sets (sets start at first) k second) (omega (arith, p.past)) ∙ goes_on))
          (below_or_not (length start - at) (length first));
      past = omega (arith, p.past, q.past, length-append first second);
    }

-- where there is room, the text stands in the buffer whole
module _ {before text after : List ℕ} {at next : ℕ} (p : Put before at text after next) (room : at + length text ≤ length before) where
  pub put_past : next ≡ at + length text
  put_past = omega (arith, p.past)

  pub put_part : take (next - at) (drop at after) ≡ text
  put_part =
      let size : next - at ≡ length text = omega (arith, put_past) in
      rw (size, p.written, sets-eq text before at room, append_assoc, drop_at (take at before) _ at (length-take-le at before (omega arith)))
      (take-append_seam text _)

-- so it is with a writer that writes one text and then another
pub wrote_nothing : (w : Writer) → Wrote w [] w
wrote_nothing w = record { put = put_nothing _ _; same_buffer = refl }

pub wrote_more : {start middle end : Writer} {first second : List ℕ} → Wrote start first middle → Wrote middle second end → Wrote start (first ++ second) end
wrote_more p q = record { put = put_more p.put q.put; same_buffer = q.same_buffer ∙ p.same_buffer }
