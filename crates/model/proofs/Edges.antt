-- The table of edges holds: one test that is computed over all of it.
use Rattle.std.proofs.Common.{◌≡◌, ℕ, Bool, true, ◌&&◌, Option, None, Some, List, [], ◌∷◌, length, set, refl, ap, ◌∙◌, arith, get_or-set_same, eq-eqb}
use Rattle.std.proofs.lemmas.Bool.{and_parts, eqb-true}
use Rattle.registers.specs.declared.Command.{Command}
use Rattle.registers.specs.declared.Command.TheVariants.{Mwrite}
use Rattle.choice.specs.Choice.{when◌then◌else◌, ◌<?◌, ◌=?◌}
use Rattle.registers.specs.Commands.{command_of, ◌is◌, parameters}
use Rattle.registers.specs.Parameters.{begin, store, store_system, store_display, store_blocks, store_form, store_overlay, direction_of, with_low, with_high, allowed, system_allows, form_allows}
use Rattle.registers.specs.Cursor.{next_address}
use Rattle.registers.specs.Layout.{field, in_layout}
use Rattle.registers.specs.Sizes.{memory_size}
use Rattle.row.specs.Layers.{three_layers}
use Rattle.row.specs.Glyphs.{glyph_of}
use Rattle.row.specs.Flashing.{is_on, flashing, is_lit}
use Rattle.row.specs.Dots.{dots_per_column, shown_columns, width}
use Rattle.row.specs.Refusals.{grey_mode, smooth_scroll, odd_lines, layer_order, cursor_shape, row_refusal}
use Rattle.row.specs.Rows.{row_answer}
use Rattle.model.specs.Machine.{Machine, Outcome, accept, refuse}
use Rattle.model.specs.Bus.{ignored, display_off, take_command, command_write, served, accessed, write_data, data_write, data_read, write_parameter, write_memory}
use Rattle.model.specs.Calls.{BusCall, command, write, read, call, after, reset}
use Rattle.model.specs.Refresh.{All}
use Rattle.model.specs.Edges.{Edge, observed, edges, EdgesHold}
use Rattle.model.proofs.Runs.{after_size}

-- a call beside 32,768 bytes, which computes whatever they are
abbrev sized_write_of : Option Command → Machine → ℕ → Outcome
sized_write_of None m b = refuse 3 m.controller m.memory
sized_write_of (Some d) m b =
    let c = m.controller in
    let address = c.registers.cursor.address in
    when d is Mwrite
    then when address <? memory_size then accept (accessed c) (set m.memory address b) else refuse 7 (accessed c) m.memory
    else when c.pending.place <? parameters d then write_parameter d m b
    else refuse 3 c m.memory

abbrev sized_call : Machine → BusCall → Outcome
sized_call m (command b) = command_write m b
sized_call m (write b) = sized_write_of (served m.controller) m b
sized_call m read = data_read m

call_sized : (m : Machine) → length m.memory ≡ memory_size → (c : BusCall) → call m c ≡ sized_call m c
unfolding data_write write_data write_memory
call_sized m full (command b) = refl
call_sized m full (write b) = rw (eq-eqb _ _ full) (go (served m.controller))
  where
    go : (o : Option Command) → write_data o m b ≡ sized_write_of o m b
    go None = refl
    go (Some c) = rw full
call_sized m full read = refl

abbrev sized_after : Machine → List BusCall → Machine
sized_after m [] = m
sized_after m (c ∷ cs) = sized_after (sized_call m c).machine cs

after_sized : (m : Machine) → length m.memory ≡ memory_size → (cs : List BusCall) → after m cs ≡ sized_after m cs
after_sized m full [] = refl
after_sized m full (c ∷ cs) =
    after_sized (call m c).machine (after_size m (c ∷ []) ∙ full) cs ∙ ap (λ (o : Outcome). sized_after o.machine cs) (call_sized m full c)

module _ (memory : List ℕ) (full : length memory ≡ memory_size) where
  -- whether an edge holds by the calls that compute, and whether all of a table do
  abbrev holds : Edge → Bool
  holds e = observed e.observation (sized_call (sized_after (reset memory) e.before) e.last) =? e.expected

  abbrev each_holds : List Edge → Bool
  each_holds [] = true
  each_holds (e ∷ es) = holds e && each_holds es

  -- a table that passes the test holds
  all_hold : (es : List Edge) → each_holds es ≡ true → All (λ e. observed e.observation (call (after (reset memory) e.before) e.last) ≡ e.expected) es
  all_hold [] t = tt
  all_hold (e ∷ es) t =
      let b = and_parts (holds e) (each_holds es) t in (
        ap (observed e.observation) (call_sized (after (reset memory) e.before) (after_size (reset memory) e.before ∙ full) e.last
            ∙ ap (λ (m : Machine). sized_call m e.last) (after_sized (reset memory) full e.before))
            ∙ eqb-true _ _ b.0,
        all_hold es b.1,
      )

-- it computes but for the memory: its length, and the byte that was stored in it
pub edges_hold : EdgesHold
unfolding command_of begin store store_system store_display store_blocks store_form store_overlay direction_of with_low with_high allowed system_allows form_allows next_address ignored display_off take_command command_write served write_parameter in_layout field row_answer row_refusal grey_mode smooth_scroll odd_lines layer_order cursor_shape three_layers width shown_columns dots_per_column is_lit flashing is_on glyph_of
edges_hold memory full = all_hold memory full edges (simp (get_or-set_same memory 0x7FFF 0xA5 0 (omega arith), full) refl)
