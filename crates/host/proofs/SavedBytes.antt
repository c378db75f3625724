-- Saved controllers: laws on their bytes, and that reading and saving undo each other.
use Rattle.std.proofs.Common.{◌≡◌, ℕ, ◌+◌, ◌*◌, ◌<◌, Bool, true, false, List, length, sym, refl, ◌∙◌, arith, eqb-true}
use Rattle.choice.specs.Choice.{◌=?◌}
use Rattle.std.proofs.lemmas.Bool.{and_parts}
use Rattle.choice.proofs.Cases.{below2, below4}
use Rattle.registers.proofs.Codes.{of_pending_code}
use Rattle.registers.specs.declared.Direction.{Direction}
use Rattle.registers.specs.declared.Direction.TheVariants.{Right, Left, Up, Down}
use Rattle.registers.specs.Parameters.{direction_of}
use Rattle.dots.specs.Tables.{table}
use Rattle.dots.proofs.Tables.{is_table}
use Rattle.model.specs.declared.Controller.{Controller}
use Rattle.model.specs.Refresh.{All, Byte}
use Rattle.model.proofs.Runs.{byte_at_lem}
use Rattle.host.specs.Saved.{byte_at, is_saved, flag, low, high, direction_number, direction_numbered, saved_bytes, controller_of, InLayout, SavedForm}

pub saved_length : (s : List ℕ) → is_saved s ≡ true → length s ≡ 48
unfolding is_saved
saved_length s e = eqb-true _ _ (and_parts (length s =? 48) (byte_at s 0 =? 1) e).0

pub saved_format : (s : List ℕ) → is_saved s ≡ true → byte_at s 0 ≡ 1
unfolding is_saved
saved_format s e = eqb-true _ _ (and_parts (length s =? 48) (byte_at s 0 =? 1) e).1

-- Fields that are saved and read

flag_read : (b : Bool) → (flag b =? 1) ≡ b
flag_read true = refl
flag_read false = refl

word_read : (w : ℕ) → low w + 256 * high w ≡ w
word_read w = omega arith

direction_read : (d : Direction) → direction_numbered (direction_number d) ≡ d
unfolding direction_numbered direction_of
direction_read Right = refl
direction_read Left = refl
direction_read Up = refl
direction_read Down = refl

flag_below : (b : Bool) → flag b < 2
flag_below true = omega arith
flag_below false = omega arith

direction_below : (d : Direction) → direction_number d < 4
direction_below Right = omega arith
direction_below Left = omega arith
direction_below Up = omega arith
direction_below Down = omega arith

-- Fields that are read and saved

flag_saved : (b : ℕ) → b < 2 → flag (b =? 1) ≡ b
flag_saved = below2 (λ b. flag (b =? 1) ≡ b) refl refl

direction_saved : (d : ℕ) → d < 4 → direction_number (direction_numbered d) ≡ d
unfolding direction_numbered direction_of
direction_saved = below4 (λ d. direction_number (direction_numbered d) ≡ d) refl refl refl refl

-- The whole form

saved_read : (c : Controller) → controller_of (saved_bytes c) ≡ c
unfolding controller_of saved_bytes
saved_read c = simp (flag_read, word_read, direction_read, of_pending_code)

saved_in_layout : (c : Controller) → InLayout (saved_bytes c)
unfolding saved_bytes is_saved
saved_in_layout c =
    record {
      saved = refl;
      flags = search flag_below;
      pending = rw of_pending_code;
      direction = direction_below c.registers.cursor.direction;
      reserved = (refl, (refl, (refl, (refl, (refl, tt)))));
    }

read_saved : (s : List ℕ) → All Byte s → InLayout s → saved_bytes (controller_of s) ≡ s
unfolding controller_of saved_bytes table is_saved
read_saved s bytes h = each ∙ sym (is_table 48 (byte_at s) s (saved_length s h.saved) (λ k lt. refl))
  where
    low_saved : (i j : ℕ) → low (byte_at s i + 256 * byte_at s j) ≡ byte_at s i
    low_saved i j = omega (arith, byte_at_lem s bytes i)

    high_saved : (i j : ℕ) → high (byte_at s i + 256 * byte_at s j) ≡ byte_at s j
    high_saved i j = omega (arith, byte_at_lem s bytes i)

    each : saved_bytes (controller_of s) ≡ table 48 (byte_at s)
    each =
        let flags = h.flags in
        let reserved = h.reserved in
        rw (
          saved_format s h.saved,
          flag_saved _ flags.0,
          flag_saved _ flags.1.0,
          flag_saved _ flags.1.1.0,
          flag_saved _ flags.1.1.1.0,
          flag_saved _ flags.1.1.1.1.0,
          flag_saved _ flags.1.1.1.1.1.0,
          flag_saved _ flags.1.1.1.1.1.1.0,
          flag_saved _ flags.1.1.1.1.1.1.1.0,
          flag_saved _ flags.1.1.1.1.1.1.1.1.0,
          flag_saved _ flags.1.1.1.1.1.1.1.1.1.0,
          flag_saved _ flags.1.1.1.1.1.1.1.1.1.1.0,
          h.pending,
          direction_saved _ h.direction,
          reserved.0,
          reserved.1.0,
          reserved.1.1.0,
          reserved.1.1.1.0,
          reserved.1.1.1.1.0,
        )
        (simp (low_saved, high_saved))

pub saved_form : SavedForm
saved_form = record { saved_read = saved_read; saved_in_layout = saved_in_layout; read_saved = read_saved }
