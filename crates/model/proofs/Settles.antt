-- Demand 3, first part: whatever came before, a full refresh leads to one and the same machine.
use Rattle.std.proofs.Common.{◌≡◌, ℕ, ◌<◌, Bool, true, false, Some, ◌||◌, List, [], ◌∷◌, ◌++◌, length, get_or, sym, refl, ap, ◌∙◌, subst, append_assoc, arith}
use Rattle.registers.specs.declared.Command.{Command}
use Rattle.registers.specs.declared.Command.TheVariants.{SystemSet, SleepIn, Disp, Scroll, CsrForm, CsrDir, Ovlay, CgramAdr, HdotScr, GrayScale, Csrw, Mwrite}
use Rattle.registers.specs.declared.Direction.TheVariants.{Right}
use Rattle.registers.specs.declared.Registers.{Registers}
use Rattle.choice.specs.Choice.{when◌then◌else◌}
use Rattle.registers.specs.Commands.{command_of, ◌is◌, parameters}
use Rattle.registers.specs.Parameters.{begin, store, store_system, store_display, store_blocks, store_form, store_overlay, direction_of, reset_registers}
use Rattle.registers.specs.Sizes.{memory_size}
use Rattle.registers.proofs.Words.{both_bytes}
use Rattle.model.specs.declared.Pending.{Pending}
use Rattle.model.specs.declared.Controller.{Controller}
use Rattle.model.specs.Machine.{Machine, Outcome, machine, accept, controller}
use Rattle.model.specs.Bus.{ignored}
use Rattle.model.specs.Calls.{BusCall, command, call, trace, reset}
use Rattle.model.specs.Refresh.{All, occurrences, nine, Refresh, opcode, send, sends, sent}
use Rattle.model.specs.Demand.{Accepted, reached, RefreshSettles}
use Rattle.model.proofs.Runs.{Runs, runs_none, runs_cons, runs_append, runs_to, after_size}
use Rattle.model.proofs.Steps.{Takes, takes_awake, begun, stores, parameters_run, writing, filled}
use Rattle.model.proofs.Ten.{Ten, of_ten}
use Rattle.model.proofs.Seen.{none, also, adds, adds_counted, all_counted}

module _ (r : Refresh) where
  -- a command that is known, and neither SLEEP IN nor MWRITE
  record Plain (c : Command) : Type 0 where
    known : command_of (opcode r c) ≡ Some c
    no_sleep : (c is SleepIn) ≡ false
    no_memory : (c is Mwrite) ≡ false

  plain_of : (c : Command) → command_of (opcode r c) ≡ Some c → (c is SleepIn) ≡ false → (c is Mwrite) ≡ false → Plain c
  plain_of c k n m = record { known = k; no_sleep = n; no_memory = m }

  opcode_on : (on : Bool) → command_of (when on then 0x59 else 0x58) ≡ Some Disp
  unfolding command_of
  opcode_on true = refl
  opcode_on false = refl

  plain : (c : Command) → Ten c → Plain c
  unfolding command_of
  plain =
      of_ten Plain
      (record {
        system_set = plain_of SystemSet refl refl refl;
        scroll = plain_of Scroll refl refl refl;
        csr_form = plain_of CsrForm refl refl refl;
        csr_dir = plain_of CsrDir refl refl refl;
        ovlay = plain_of Ovlay refl refl refl;
        cgram_adr = plain_of CgramAdr refl refl refl;
        hdot_scr = plain_of HdotScr refl refl refl;
        grey_scale = plain_of GrayScale refl refl refl;
        disp = plain_of Disp (opcode_on r.on) refl refl;
        csrw = plain_of Csrw refl refl refl;
      })

  -- the registers after a command with all its parameters
  abbrev pub put : Command → Registers → Registers
  put c x = stores c 0 (parameters c) (r.values c) (begin c (opcode r c) x)

  command_run : (c : Command) → Ten c → (s : Controller) (memory : List ℕ) → length memory ≡ memory_size → Takes c s.registers
      → Runs Accepted (machine s memory) (send r c) (machine (controller (put c s.registers) (Some c) (parameters c)) memory)
  unfolding begin
  command_run c h s memory full t =
      let p = plain c h in
      rw p.no_memory
      (runs_cons (begun c (opcode r c) p.known p.no_sleep s memory t) refl
      (parameters_run c p.no_memory 0 (parameters c) (omega arith) (r.values c) (begin c (opcode r c) s.registers) memory full (rw p.no_sleep t)))

  -- what the ten set, each its own fields
  abbrev pub settled : Registers
  settled =
      record {
        system = (put SystemSet reset_registers).system;
        display = (put Disp reset_registers).display;
        blocks = (put Scroll reset_registers).blocks;
        form = (put CsrForm reset_registers).form;
        overlay = (put Ovlay reset_registers).overlay;
        cgram = (put CgramAdr reset_registers).cgram;
        hdot = (put HdotScr reset_registers).hdot;
        grey = (put GrayScale reset_registers).grey;
        cursor = record { address = 0; direction = Right };
        asleep = false;
      }

  -- after some of the ten, from x: what they set, and x for the rest
  abbrev pub settling : (Command → Bool) → Registers → Registers
  settling seen x =
      record {
        system = when seen SystemSet then settled.system else x.system;
        display = when seen Disp then settled.display else x.display;
        blocks = when seen Scroll then settled.blocks else x.blocks;
        form = when seen CsrForm then settled.form else x.form;
        overlay = when seen Ovlay then settled.overlay else x.overlay;
        cgram = when seen CgramAdr then settled.cgram else x.cgram;
        hdot = when seen HdotScr then settled.hdot else x.hdot;
        grey = when seen GrayScale then settled.grey else x.grey;
        cursor =
            record {
              address = when seen Csrw then settled.cursor.address else x.cursor.address;
              direction = when seen CsrDir then settled.cursor.direction else x.cursor.direction;
            };
        asleep = when seen SystemSet then settled.asleep else x.asleep;
      }

  put_settling : (c : Command) → Ten c → (seen : Command → Bool) (x : Registers) → (settling seen x).asleep ≡ false → put c (settling seen x) ≡ settling (also c seen) x
  unfolding begin store store_system store_display store_blocks store_form store_overlay direction_of
  put_settling =
      of_ten (λ c. (seen : Command → Bool) (x : Registers) → (settling seen x).asleep ≡ false → put c (settling seen x) ≡ settling (also c seen) x)
      (record {
        system_set = λ seen x a. let v = r.values SystemSet in simp (a, both_bytes v.3.3.3.3.3.3.1);
        scroll =
            λ seen x a.
            let v = r.values Scroll in
            simp (both_bytes v.1, both_bytes v.3.3.3.1, both_bytes v.3.3.3.3.3.3.1, both_bytes v.3.3.3.3.3.3.3.3.1);
        csr_form = λ seen x a. refl;
        csr_dir = λ seen x a. refl;
        ovlay = λ seen x a. refl;
        cgram_adr = λ seen x a. simp (both_bytes (r.values CgramAdr).1);
        hdot_scr = λ seen x a. refl;
        grey_scale = λ seen x a. refl;
        disp = λ seen x a. refl;
        csrw =
            λ seen x a.
            let low : (r.values Csrw).0 ≡ 0 = ap (λ (l : List ℕ). get_or l 0 0) r.home in
            let high : (r.values Csrw).3.0 ≡ 0 = ap (λ (l : List ℕ). get_or l 1 0) r.home in
            simp (both_bytes (r.values Csrw).1) (rw (low, high));
      })

  awake_also : (c : Command) (seen : Command → Bool) (x : Registers) → (settling seen x).asleep ≡ false → (settling (also c seen) x).asleep ≡ false
  awake_also c seen x = go (SystemSet is c) (seen SystemSet)
    where
      go : (t s : Bool) → (when s then false else x.asleep) ≡ false → (when t || s then false else x.asleep) ≡ false
      go true s h = refl
      go false s h = h

  -- some of the ten in any order, awake
  pub settling_run : (cs : List Command) → All Ten cs → (seen : Command → Bool) (x : Registers) (pending : Pending) (memory : List ℕ) → length memory ≡ memory_size → (settling seen x).asleep ≡ false
      → (pending' : Pending)
      × Runs Accepted (machine (record { registers = settling seen x; pending = pending }) memory) (sends r cs) (machine (record { registers = settling (adds cs seen) x; pending = pending' }) memory)
      × ((settling (adds cs seen) x).asleep ≡ false)
  settling_run [] h seen x pending memory full a = (pending, runs_none, a)
  settling_run (c ∷ cs) h seen x pending memory full a =
      let now = command_run c h.0 (record { registers = settling seen x; pending = pending }) memory full (takes_awake c (settling seen x) a) in
      let later = settling_run cs h.1 (also c seen) x (record { command = Some c; place = parameters c }) memory full (awake_also c seen x a) in
      (later.0, runs_append (send r c) (runs_to (ap (λ (y : Registers). machine (controller y (Some c) (parameters c)) memory) (put_settling c h.0 seen x a)) now) later.1, later.2)

  -- SYSTEM SET, awake or not, settles its own fields and leaves the chip awake
  put_first : (x : Registers) → put SystemSet x ≡ settling (also SystemSet none) (put SystemSet x)
  unfolding begin store store_system
  put_first x = simp (woken x.asleep, both_bytes (r.values SystemSet).3.3.3.3.3.3.1)
    where
      woken : (asleep : Bool) → (when asleep then false else asleep) ≡ false
      woken true = refl
      woken false = refl

  -- and SYSTEM SET before them, awake or not
  pub first_run : (cs : List Command) → All Ten cs → (s : Controller) (memory : List ℕ) → length memory ≡ memory_size
      → (x : Registers) × (pending' : Pending)
      × Runs Accepted (machine s memory) (sends r (SystemSet ∷ cs)) (machine (record { registers = settling (adds (SystemSet ∷ cs) none) x; pending = pending' }) memory)
  unfolding ignored
  first_run cs h s memory full =
      let x = put SystemSet s.registers in
      let now = command_run SystemSet (omega arith) s memory full refl in
      let later = settling_run cs h (also SystemSet none) x (record { command = Some SystemSet; place = parameters SystemSet }) memory full refl in
      (x, later.0, runs_append (send r SystemSet) (runs_to (ap (λ (y : Registers). machine (controller y (Some SystemSet) (parameters SystemSet)) memory) (put_first s.registers)) now) later.1)

  pub order_ten : All Ten r.order
  order_ten = all_counted Ten r.order (λ c h. go c (c is SystemSet) refl (subst (λ (n : ℕ). 0 < n) (r.once c) h))
    where
      go : (c : Command) (t : Bool) → (c is SystemSet) ≡ t → 0 < occurrences c nine → Ten c
      go c true e h = rw e (omega arith)
      go c false e h = rw e h

  settling_all : (seen : Command → Bool) (x : Registers) → ((c : Command) → Ten c → seen c ≡ true) → settling seen x ≡ settled
  settling_all seen x h =
      rw (h SystemSet (omega arith), h Disp (omega arith), h Scroll (omega arith), h CsrForm (omega arith), h Ovlay (omega arith), h CgramAdr (omega arith), h HdotScr (omega arith), h GrayScale (omega arith), h Csrw (omega arith), h CsrDir (omega arith))

  pub write_begun : (x : Registers) (pending : Pending) (memory : List ℕ) → x.asleep ≡ false
      → call (machine (record { registers = x; pending = pending }) memory) (command 0x42) ≡ accept (controller x (Some Mwrite) 0) memory
  unfolding command_of begin
  write_begun x pending memory a = begun Mwrite 0x42 refl refl (record { registers = x; pending = pending }) memory (takes_awake Mwrite x a)

  sends-append : (cs ds : List Command) → sends r (cs ++ ds) ≡ sends r cs ++ sends r ds
  sends-append [] ds = refl
  sends-append (c ∷ cs) ds = ap (λ (l : List BusCall). send r c ++ l) (sends-append cs ds) ∙ sym (append_assoc (send r c) (sends r cs) (sends r ds))

  pub runs_sends : {P : Outcome → Type 0} {m m' m'' : Machine} (cs ds : List Command) → Runs P m (sends r cs) m' → Runs P m' (sends r ds) m'' → Runs P m (sends r (cs ++ ds)) m''
  runs_sends {P} {m} {m'' = m''} cs ds h k = subst (λ (l : List BusCall). Runs P m l m'') (sym (sends-append cs ds)) (runs_append (sends r cs) h k)

  -- the one machine that the refresh leads to
  abbrev pub image : Machine
  image = writing settled (length r.memory) r.memory

  pub refreshed : (s : Controller) (memory : List ℕ) → length memory ≡ memory_size → Runs Accepted (machine s memory) (sent r) image
  refreshed s memory full =
      let t = first_run r.order order_ten s memory full in
      runs_sends (SystemSet ∷ r.order) (Mwrite ∷ []) t.2
      (subst (λ (x : Registers). Runs Accepted (machine (record { registers = x; pending = t.1 }) memory) (sends r (Mwrite ∷ [])) image)
      (sym (settling_all (adds (SystemSet ∷ r.order) none) t.0 all_seen))
      (runs_append (send r Mwrite)
      (runs_cons (write_begun settled t.1 memory refl) refl (filled settled refl refl [] memory r.memory (full ∙ sym r.memory_full) full)) runs_none))
    where
      all_seen : (c : Command) → Ten c → adds (SystemSet ∷ r.order) none c ≡ true
      all_seen c h = adds_counted (SystemSet ∷ r.order) none c (go (c is SystemSet) refl)
        where
          go : (t : Bool) → (c is SystemSet) ≡ t → 0 < occurrences c (SystemSet ∷ r.order)
          go true e = rw e (omega arith)
          go false e = rw (e, r.once c) (rw e at h)

pub settles : RefreshSettles
settles p₁ p₂ r later =
    let m₁ = reached p₁ in
    let m₂ = reached p₂ in
    let h₁ = refreshed r m₁.controller m₁.memory (after_size (reset p₁.memory) p₁.calls ∙ p₁.memory_full) in
    let h₂ = refreshed r m₂.controller m₂.memory (after_size (reset p₂.memory) p₂.calls ∙ p₂.memory_full) in
    let e = h₁.leads ∙ sym h₂.leads in
    record {
      accepted₁ = h₁.answered;
      accepted₂ = h₂.answered;
      equal = e;
      equal_later = ap (λ (m : Machine). trace m later) e;
    }
