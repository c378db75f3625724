-- The lines of a frame, row by row.
use Rattle.std.proofs.Common.{◌≡◌, ℕ, zero, suc, ◌+◌, ◌++◌, refl, add-zero, ◌<◌, ◌≤◌, min, List, [], ◌∷◌, length, Result, Err, ap, ◌∙◌, subst, ⊎_elim, arith, ne_eqb}
use Rattle.std.proofs.lemmas.Bool.{cases_lt}
use Rattle.registers.specs.declared.Count.{Count}
use Rattle.registers.specs.declared.Refusal.{Refusal}
use Rattle.registers.specs.Refusals.{number, reply}
use Rattle.registers.specs.Layout.{in_layout}
use Rattle.registers.proofs.Numbers.{number_not_0}
use Rattle.row.specs.Rows.{RowAnswer, RowOutcome, frame_size, row_answer, row_outcome, composed_outcome}
use Rattle.row.proofs.Accepting.{other_row, wide_refused}
use Rattle.model.specs.Machine.{Machine}
use Rattle.lines.specs.Lines.{refused_line, frame_line, row_line}
use Rattle.session.specs.Records.{row_of, row_lines, framed, frame_lines}
use Rattle.session.specs.Carrying.{Live, CarriesOut, Prints}
use Rattle.session.proofs.Calls.{lines_both}

-- one row more
pub rows_more : (row : ℕ → RowAnswer) (n k : ℕ) → row_lines row n (suc k) ≡ row_lines row n k ++ row_line (row (n + k)).dots ∷ []
rows_more row n zero = rw add-zero refl
rows_more row n (suc k) =
    let rest = rows_more row (n + 1) k in
    rw further (ap (λ (lines : List (List ℕ)). row_line (row n).dots ∷ lines) rest)
  where
    further : n + suc k ≡ n + 1 + k
    further = omega arith

-- it prints the row's dots
pub row_printed : (row : ℕ → RowAnswer) (n : ℕ) {dots : List ℕ} {s t : Live} → dots ≡ (row n).dots
    → Prints (row_line dots ∷ []) s t → Prints (row_line (row n).dots ∷ []) s t
row_printed row n d e = rw (← d) e

-- a frame whose first row is refused
pub refused_lines : (r frame size rows : ℕ) (row : ℕ → RowAnswer) (a : Result Unit Refusal) {refusal : Refusal} → a ≡ Err refusal → (reply a).refusal ≡ (row 0).refusal
    → refused_line r 0 (number refusal) ∷ [] ≡ framed r frame size rows row
refused_lines r frame size rows row a {refusal} told first = rw (← first, told, ne_eqb (number refusal) 0 (number_not_0 refusal)) refl

module _ (m : Machine) (font : List ℕ) (frame : ℕ) where
  pub answered : (n : ℕ) (out : List ℕ) (a : Result Unit Refusal) {left : List ℕ} → composed_outcome a left ≡ row_outcome m.controller.registers m.memory font frame n out
      → (reply a).refusal ≡ (row_of m font frame (length out) n).refusal
  unfolding row_outcome
  answered n out a e = ap (λ (o : RowOutcome). o.refusal) e

  -- a frame whose first row is accepted, its rows in a buffer that stays as long as it was
  pub accepted_frame : (r rows size : ℕ) {still : ℕ} {s t u : Live} → still ≡ size → (row_of m font frame size 0).refusal ≡ 0
      → CarriesOut [] (frame_line r frame still rows ∷ []) s t → CarriesOut [] (row_lines (row_of m font frame still) 0 rows) t u
      → CarriesOut [] (framed r frame size rows (row_of m font frame size)) s u
  accepted_frame r rows size {s = s} {t = t} {u = u} same first e f =
      rw first
      (lines_both (frame_line r frame size rows ∷ []) (row_lines (row_of m font frame size) 0 rows)
      (subst (λ (k : ℕ). CarriesOut [] (frame_line r frame k rows ∷ []) s t) same e)
      (subst (λ (k : ℕ). CarriesOut [] (row_lines (row_of m font frame k) 0 rows) t u) same f))

  -- each row of a frame whose first row is accepted leaves its dots, asked of what is still the same machine and font
  pub leaves_dots : (n size : ℕ) (out : List ℕ) (a : Result Unit Refusal) {left : List ℕ} {m' : Machine} {font' : List ℕ} → (row_of m font frame size 0).refusal ≡ 0
      → n < (frame_size m.controller.registers).rows.0 → length out ≡ size → m' ≡ m → font' ≡ font
      → composed_outcome a left ≡ row_outcome m'.controller.registers m'.memory font' frame n out → left ≡ (row_of m font frame size n).dots
  unfolding row_answer row_outcome
  leaves_dots n size out a first below same still font_still e =
      ap (λ (o : RowOutcome). o.buffer) e
      ∙ rw (still, font_still, same, other_row (in_layout m.controller.registers) (length m.memory) (length font) 0 n size first below)

  -- a frame in a buffer of at most 640 dots
  pub in_640 : (r : ℕ) {size : ℕ} {rows : Count} → size ≡ min 640 (frame_size m.controller.registers).width → rows ≡ (frame_size m.controller.registers).rows
      → framed r frame size rows.0 (row_of m font frame size) ≡ frame_lines r m font frame
  unfolding row_answer
  in_640 r {size} {rows} e same = ⊎_elim wide narrow (cases_lt 640 full)
    where
      full : ℕ
      full = (frame_size m.controller.registers).width

      Same : Type 0
      Same = framed r frame size rows.0 (row_of m font frame size) ≡ frame_lines r m font frame

      narrow : full ≤ 640 → Same
      narrow h = let whole : size ≡ full = omega arith in rw (whole, same)

      wide : 640 < full → Same
      wide h = let p = wide_refused (in_layout m.controller.registers) (length m.memory) (length font) 0 h in rw (p.0 size, ne_eqb _ 0 p.1)
