-- Demand 3, whole.
use Rattle.std.proofs.Common.{ℕ, true, replicate, refl, lit<}
use Rattle.std.proofs.lemmas.List.{length-replicate}
use Rattle.registers.specs.declared.Command.{Command}
use Rattle.registers.specs.declared.Command.TheVariants.{SystemSet, SleepIn, Disp, Scroll, CsrForm, CsrDir, Ovlay, CgramAdr, HdotScr, GrayScale, Csrw, Csrr, Mwrite, Mread}
use Rattle.registers.specs.Parameters.{allowed, system_allows, form_allows}
use Rattle.registers.specs.Sizes.{memory_size}
use Rattle.model.specs.Refresh.{Byte, AllValues, nine, Refresh}
use Rattle.model.specs.Demand.{Demand3}
use Rattle.model.proofs.Runs.{all_replicate}
use Rattle.model.proofs.Settles.{settles}
use Rattle.model.proofs.Needed.{needed}

-- 320 x 240 in 8 x 8 characters, four bits a dot
values : (c : Command) → AllValues c
unfolding allowed system_allows form_allows
values SystemSet = (0x10, lit< tt, tt, (7, lit< tt, tt, (7, lit< tt, tt, (0x27, lit< tt, tt, (0x2B, lit< tt, tt, (0xEF, lit< tt, tt, (0x28, lit< tt, tt, (0, lit< tt, tt, tt))))))))
values SleepIn = tt
values Disp = (0x14, lit< tt, tt, tt)
values Scroll = (0, lit< tt, tt, (0, lit< tt, tt, (0xEF, lit< tt, tt, (0, lit< tt, tt, (0x10, lit< tt, tt, (0xEF, lit< tt, tt, (0, lit< tt, tt, (0, lit< tt, tt, (0, lit< tt, tt, (0, lit< tt, tt, tt))))))))))
values CsrForm = (4, lit< tt, tt, (6, lit< tt, tt, tt))
values CsrDir = tt
values Ovlay = (0x0D, lit< tt, tt, tt)
values CgramAdr = (0, lit< tt, tt, (0, lit< tt, tt, tt))
values HdotScr = (0, lit< tt, tt, tt)
values GrayScale = (2, lit< tt, tt, tt)
values Csrw = (0, lit< tt, tt, (0, lit< tt, tt, tt))
values Csrr = tt
values Mwrite = tt
values Mread = tt

pub a_refresh : Refresh
unfolding values
a_refresh =
    record {
      values = values;
      home = refl;
      on = true;
      order = nine;
      once = λ c. refl;
      memory = replicate memory_size 0;
      memory_bytes = all_replicate Byte 0 (lit< tt) memory_size;
      memory_full = length-replicate {A = ℕ} memory_size 0;
    }

pub demand_3 : Demand3
demand_3 = record { settles = settles; needed = needed; exists = a_refresh }
