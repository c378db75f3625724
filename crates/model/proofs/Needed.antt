-- Demand 3, second part: each of the eleven commands is needed.
use Rattle.std.proofs.Common.{◌≡◌, ℕ, zero, suc, ◌+◌, ◌<◌, ◌≤◌, Bool, true, false, T, Some, List, [], ◌∷◌, ◌++◌, length, get_or, set, sym, refl, ap, ◌∙◌, subst, inl, add-zero, arith, length-set, get_or-set_same, eq-eqb}
use Rattle.registers.specs.declared.Command.{Command}
use Rattle.registers.specs.declared.Command.TheVariants.{SystemSet, SleepIn, Disp, Scroll, CsrForm, CsrDir, Ovlay, CgramAdr, HdotScr, GrayScale, Csrw, Csrr, Mwrite, Mread}
use Rattle.registers.specs.declared.Direction.{Direction}
use Rattle.registers.specs.declared.Direction.TheVariants.{Right, Left, Up, Down}
use Rattle.registers.specs.declared.Registers.{Registers}
use Rattle.choice.specs.Choice.{when◌then◌else◌}
use Rattle.registers.specs.Commands.{command_of, code, ◌is◌}
use Rattle.registers.specs.Parameters.{begin, store, store_system, store_display, store_blocks, store_form, store_overlay, direction_of, with_low, allowed, system_allows, form_allows, reset_registers}
use Rattle.registers.specs.Cursor.{next_address}
use Rattle.registers.specs.Sizes.{memory_size}
use Rattle.registers.proofs.Codes.{is_same}
use Rattle.model.specs.declared.Pending.{Pending}
use Rattle.model.specs.declared.Controller.{Controller}
use Rattle.model.specs.Machine.{Machine, Outcome, machine, controller}
use Rattle.model.specs.Bus.{ignored, display_off, take_command, command_write, served, write_data, data_write, write_parameter}
use Rattle.model.specs.Calls.{BusCall, command, write, after, reset}
use Rattle.model.specs.Refresh.{All, Byte, occurrences, nine, eleven, Refresh, send, sends, without}
use Rattle.model.specs.Demand.{OnBus, Accepted, Only7, Prior, reached, rest, Differ, EachNeeded}
use Rattle.model.proofs.Runs.{Runs, runs_none, runs_cons, runs_append, runs_weaker}
use Rattle.model.proofs.Steps.{at, next, writing, travel, spilled}
use Rattle.model.proofs.Ten.{Ten, of_ten}
use Rattle.model.proofs.Seen.{none, adds, adds_without, all_counted, all_without}
use Rattle.model.proofs.Settles.{order_ten, settling, settling_run, write_begun, runs_sends}

-- Two controllers from reset, the second after a list that makes a number of c's registers 1

abbrev direction_number : Direction → ℕ
direction_number Right = 0
direction_number Left = 1
direction_number Up = 2
direction_number Down = 3

abbrev observe : Command → Registers → ℕ
observe SystemSet x = when x.system.iv then 1 else 0
observe SleepIn x = 0
observe Disp x = when x.display.on then 1 else 0
observe Scroll x = x.blocks.sad1
observe CsrForm x = x.form.crx.0
observe CsrDir x = direction_number x.cursor.direction
observe Ovlay x = x.overlay.mx
observe CgramAdr x = x.cgram
observe HdotScr x = x.hdot
observe GrayScale x = x.grey
observe Csrw x = x.cursor.address
observe Csrr x = 0
observe Mwrite x = 0
observe Mread x = 0

abbrev probe_code : Command → ℕ
probe_code c = when c is Disp then 0x59 else when c is CsrDir then 0x4D else code c

abbrev probe_byte : Command → ℕ
probe_byte c = when c is SystemSet then 0x30 else 1

-- 4D takes no parameter, so its data write is refused
abbrev probe : Command → List BusCall
probe c = command (probe_code c) ∷ write (probe_byte c) ∷ []

-- awake, the cursor going right from 0 or 1 where c is CSRW
abbrev Fit : Command → Registers → Type 0
Fit c x = (x.asleep ≡ false) × (T (c is Csrw) → x.cursor.direction ≡ Right) × (x.cursor.address ≤ 1)

record Probed (memory : List ℕ) (c : Command) : Type 0 where
  bytes : All OnBus (probe c)
  left : Controller
  leads : after (reset memory) (probe c) ≡ machine left memory
  unset : observe c reset_registers ≡ 0
  one : observe c left.registers ≡ 1
  fit : Fit c left.registers

module _ (memory : List ℕ) (full : length memory ≡ memory_size) where
  told : (c : Command) (s : Controller) → All OnBus (probe c) → after (reset memory) (probe c) ≡ machine s memory → observe c reset_registers ≡ 0 → observe c s.registers ≡ 1 → Fit c s.registers → Probed memory c
  told c s b e u o f = record { bytes = b; left = s; leads = e; unset = u; one = o; fit = f }

  abbrev stored : Command → Controller
  stored c = controller (store c 0 (probe_byte c) (begin c (probe_code c) reset_registers)) (Some c) 1

  probed : (c : Command) → Ten c → Probed memory c
  unfolding command_write take_command command_of ignored display_off served data_write write_data write_parameter begin store store_system store_display store_blocks store_form store_overlay direction_of with_low allowed system_allows form_allows
  probed =
      of_ten (Probed memory)
      (record {
        system_set = told SystemSet (stored SystemSet) (omega arith) (rw (eq-eqb _ _ full, after)) refl refl (refl, (λ e. refl), omega arith);
        scroll = told Scroll (stored Scroll) (omega arith) (rw (eq-eqb _ _ full, after)) refl refl (refl, (λ e. refl), omega arith);
        csr_form = told CsrForm (stored CsrForm) (omega arith) (rw (eq-eqb _ _ full, after)) refl refl (refl, (λ e. refl), omega arith);
        csr_dir = told CsrDir (controller (begin CsrDir 0x4D reset_registers) (Some CsrDir) 0) (omega arith) (rw (eq-eqb _ _ full, after)) refl refl (refl, absurd, omega arith);
        ovlay = told Ovlay (stored Ovlay) (omega arith) (rw (eq-eqb _ _ full, after)) refl refl (refl, (λ e. refl), omega arith);
        cgram_adr = told CgramAdr (stored CgramAdr) (omega arith) (rw (eq-eqb _ _ full, after)) refl refl (refl, (λ e. refl), omega arith);
        hdot_scr = told HdotScr (stored HdotScr) (omega arith) (rw (eq-eqb _ _ full, after)) refl refl (refl, (λ e. refl), omega arith);
        grey_scale = told GrayScale (stored GrayScale) (omega arith) (rw (eq-eqb _ _ full, after)) refl refl (refl, (λ e. refl), omega arith);
        disp = told Disp (stored Disp) (omega arith) (rw (eq-eqb _ _ full, after)) refl refl (refl, (λ e. refl), omega arith);
        csrw = told Csrw (stored Csrw) (omega arith) (rw (eq-eqb _ _ full, after)) refl refl (refl, (λ e. refl), omega arith);
      })

-- The rest of a refresh from either of them

without-append : (c : Command) (ds es : List Command) → without c (ds ++ es) ≡ without c ds ++ without c es
without-append c [] es = refl
without-append c (d ∷ ds) es = go (c is d) refl (without-append c ds es)
  where
    go : (t : Bool) → (c is d) ≡ t → without c (ds ++ es) ≡ without c ds ++ without c es → without c (d ∷ (ds ++ es)) ≡ without c (d ∷ ds) ++ without c es
    go true e k = rw e k
    go false e k = rw e (ap (λ (l : List Command). d ∷ l) k)

only_7 : (o : Outcome) → Accepted o → Only7 o
only_7 o h = inl h

-- rightwards the cursor goes on by the number of bytes
rightwards : (x : Registers) (awake : x.asleep ≡ false) (address : ℕ) (bs : List ℕ) → x.cursor.direction ≡ Right → address + length bs < 65536
    → travel x awake address bs ≡ address + length bs
unfolding next_address
rightwards x awake address [] d h = omega arith
rightwards x awake address (b ∷ bs) d h = ap (λ (n : ℕ). travel x awake n bs) one ∙ rightwards x awake (address + 1) bs d (omega arith) ∙ omega arith
  where
    one : next x address ≡ address + 1
    one = rw (d, next_address) (omega arith)

-- what MWRITE adds to the number of c
abbrev gain : Command → ℕ
gain c = when c is Csrw then memory_size else 0

module _ (r : Refresh) where
  abbrev seen : Command → Command → Bool
  seen c = adds (without c (SystemSet ∷ r.order)) none

  ten_run : (c : Command) (s : Controller) (memory : List ℕ) → length memory ≡ memory_size → s.registers.asleep ≡ false
      → (pending : Pending)
      × Runs Only7 (machine s memory) (sends r (without c (SystemSet ∷ r.order))) (machine (record { registers = settling r (seen c) s.registers; pending = pending }) memory)
      × ((settling r (seen c) s.registers).asleep ≡ false)
  ten_run c s memory full awake =
      let t = settling_run r (without c (SystemSet ∷ r.order)) (all_without Ten c (SystemSet ∷ r.order) (omega arith, order_ten r)) none s.registers s.pending memory full awake in
      (t.0, runs_weaker only_7 t.1, t.2)

  rest_parts : (c : Command) {m m' : Machine} → Runs Only7 m (sends r (without c (SystemSet ∷ r.order) ++ without c (Mwrite ∷ []))) m' → Runs Only7 m (rest r c) m'
  rest_parts c h = rw (without-append c (SystemSet ∷ r.order) (Mwrite ∷ [])) h

  -- and MWRITE after them
  rest_run : (c : Command) → (c is Mwrite) ≡ false → (s : Controller) (memory : List ℕ) → length memory ≡ memory_size → s.registers.asleep ≡ false
      → (awake : (settling r (seen c) s.registers).asleep ≡ false) × (memory' : List ℕ)
      × (let x = settling r (seen c) s.registers in Runs Only7 (machine s memory) (rest r c) (writing x (travel x awake x.cursor.address r.memory) memory'))
  rest_run c n s memory full awake =
      let x = settling r (seen c) s.registers in
      let t = ten_run c s memory full awake in
      let k = spilled x t.2 x.cursor.address memory r.memory full in (
        t.2,
        k.0,
        rest_parts c
            (rw n
            (runs_sends r (without c (SystemSet ∷ r.order)) (Mwrite ∷ []) t.1
            (runs_append (send r Mwrite) (runs_cons (write_begun r x t.0 memory t.2) (inl refl) k.1) runs_none))),
      )

  -- what c alone sets stays as it was
  abbrev Stays : Command → Type 0
  Stays c = (seen : Command → Bool) → seen c ≡ false → (x : Registers) → Fit c x → (awake : (settling r seen x).asleep ≡ false)
      → let y = settling r seen x in observe c (at y (travel y awake y.cursor.address r.memory)) ≡ observe c x + gain c

  stays_csrw : Stays Csrw
  stays_csrw seen h x f awake =
      let y = settling r seen x in
      rightwards y awake y.cursor.address r.memory (go (seen CsrDir)) (omega (arith, address, r.memory_full, f.2)) ∙ rw (address, r.memory_full)
    where
      go : (t : Bool) → (when t then Right else x.cursor.direction) ≡ Right
      go true = refl
      go false = f.1 tt

      address : (settling r seen x).cursor.address ≡ x.cursor.address
      address = rw h

  stays : (c : Command) → Ten c → Stays c
  stays =
      of_ten Stays
      (record {
        system_set = λ seen h x f awake. rw (h, add-zero);
        scroll = λ seen h x f awake. rw (h, add-zero);
        csr_form = λ seen h x f awake. rw (h, add-zero);
        csr_dir = λ seen h x f awake. rw (h, add-zero);
        ovlay = λ seen h x f awake. rw (h, add-zero);
        cgram_adr = λ seen h x f awake. rw (h, add-zero);
        hdot_scr = λ seen h x f awake. rw (h, add-zero);
        grey_scale = λ seen h x f awake. rw (h, add-zero);
        disp = λ seen h x f awake. rw (h, add-zero);
        csrw = stays_csrw;
      })

  number_left : (c : Command) → Ten c → (c is Mwrite) ≡ false → (s : Controller) (memory : List ℕ) → length memory ≡ memory_size → Fit c s.registers
      → (m : Machine) × Runs Only7 (machine s memory) (rest r c) m × (observe c m.controller.registers ≡ observe c s.registers + gain c)
  number_left c h n s memory full f =
      let t = rest_run c n s memory full f.0 in
      let x = settling r (seen c) s.registers in (
        writing x (travel x t.0 x.cursor.address r.memory) t.1,
        t.2,
        stays c h (seen c) (adds_without c (SystemSet ∷ r.order) none) s.registers f t.0,
      )

-- Two controllers differ where a number of theirs does

differs : (r : Refresh) (c : Command) (p₁ p₂ : Prior) (see : Machine → ℕ) (n : ℕ) {m₁ m₂ : Machine}
    → Runs Only7 (reached p₁) (rest r c) m₁ → see m₁ ≡ n → Runs Only7 (reached p₂) (rest r c) m₂ → see m₂ ≡ suc n → Differ r c
differs r c p₁ p₂ see n h₁ e₁ h₂ e₂ =
    record {
      p₁ = p₁;
      p₂ = p₂;
      only_7₁ = h₁.answered;
      only_7₂ = h₂.answered;
      differ = λ q. omega (arith, sym e₁ ∙ ap see (sym h₁.leads ∙ q ∙ h₂.leads) ∙ e₂);
    }

abbrev prior : (memory : List ℕ) → All Byte memory → length memory ≡ memory_size → (calls : List BusCall) → All OnBus calls → Prior
prior memory b full calls cb = record { memory = memory; memory_bytes = b; memory_full = full; calls = calls; calls_bytes = cb }

needed_ten : (r : Refresh) (c : Command) → Ten c → (c is Mwrite) ≡ false → Differ r c
needed_ten r c h n =
    let p = probed r.memory r.memory_full c h in
    let a = number_left r c h n (reset r.memory).controller r.memory r.memory_full (refl, (λ e. refl), omega arith) in
    let b = number_left r c h n p.left r.memory r.memory_full p.fit in
    differs r c (prior r.memory r.memory_bytes r.memory_full [] tt) (prior r.memory r.memory_bytes r.memory_full (probe c) p.bytes) (λ m. observe c m.controller.registers) (gain c)
    a.1 (a.2 ∙ ap (λ (k : ℕ). k + gain c) p.unset ∙ omega arith)
    (subst (λ (m : Machine). Runs Only7 m (rest r c) b.0) (sym p.leads) b.1) (b.2 ∙ ap (λ (k : ℕ). k + gain c) p.one ∙ omega arith)

bytes_set : (l : List ℕ) (i b : ℕ) → Byte b → All Byte l → All Byte (set l i b)
bytes_set [] i b h k = tt
bytes_set (x ∷ xs) zero b h k = (h, k.1)
bytes_set (x ∷ xs) (suc i) b h k = (k.0, bytes_set xs i b h k.1)

-- without MWRITE a first byte of 0 and one of 1 stay
needed_mwrite : (r : Refresh) → Differ r Mwrite
needed_mwrite r =
    differs r Mwrite (first 0 (omega arith)) (first 1 (omega arith)) (λ m. get_or m.memory 0 0) 0
    (run 0 (omega arith)).1 (byte 0) (run 1 (omega arith)).1 (byte 1)
  where
    changed : ℕ → List ℕ
    changed b = set r.memory 0 b

    full : (b : ℕ) → length (changed b) ≡ memory_size
    full b = length-set r.memory 0 b ∙ r.memory_full

    byte : (b : ℕ) → get_or (changed b) 0 0 ≡ b
    byte b = get_or-set_same r.memory 0 b 0 (omega (arith, r.memory_full))

    first : (b : ℕ) → Byte b → Prior
    first b h = prior (changed b) (bytes_set r.memory 0 b h r.memory_bytes) (full b) [] tt

    run : (b : ℕ) (h : Byte b) → (c : Controller) × Runs Only7 (reached (first b h)) (rest r Mwrite) (machine c (changed b))
    run b h =
        let t = ten_run r Mwrite (reset (changed b)).controller (changed b) (full b) refl in (
          record { registers = settling r (seen r Mwrite) reset_registers; pending = t.0 },
          rest_parts r Mwrite (runs_sends r (without Mwrite (SystemSet ∷ r.order)) [] t.1 runs_none),
        )

pub needed : EachNeeded
needed r = all_counted (Differ r) (eleven nine) (λ c h. go c (c is Mwrite) refl h)
  where
    go : (c : Command) (t : Bool) → (c is Mwrite) ≡ t → 0 < occurrences c (eleven nine) → Differ r c
    go c true e h = subst (Differ r) (sym (is_same c Mwrite e)) (needed_mwrite r)
    go c false e h = needed_ten r c (rw e at h) e
