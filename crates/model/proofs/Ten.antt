-- The ten commands of a refresh before MWRITE, one by one.
use Rattle.std.proofs.Common.{◌<◌, ◌∷◌, arith}
use Rattle.registers.specs.declared.Command.{Command}
use Rattle.registers.specs.declared.Command.TheVariants.{SystemSet, SleepIn, Disp, Scroll, CsrForm, CsrDir, Ovlay, CgramAdr, HdotScr, GrayScale, Csrw, Csrr, Mwrite, Mread}
use Rattle.model.specs.Refresh.{occurrences, nine}

abbrev pub Ten : Command → Type 0
Ten c = 0 < occurrences c (SystemSet ∷ nine)

-- a proof for each of them
pub record Each (P : Command → Type 0) : Type 0 where
  pub system_set : P SystemSet
  pub scroll : P Scroll
  pub csr_form : P CsrForm
  pub csr_dir : P CsrDir
  pub ovlay : P Ovlay
  pub cgram_adr : P CgramAdr
  pub hdot_scr : P HdotScr
  pub grey_scale : P GrayScale
  pub disp : P Disp
  pub csrw : P Csrw

pub of_ten : (P : Command → Type 0) → Each P → (c : Command) → Ten c → P c
of_ten P e SystemSet h = e.system_set
of_ten P e Scroll h = e.scroll
of_ten P e CsrForm h = e.csr_form
of_ten P e CsrDir h = e.csr_dir
of_ten P e Ovlay h = e.ovlay
of_ten P e CgramAdr h = e.cgram_adr
of_ten P e HdotScr h = e.hdot_scr
of_ten P e GrayScale h = e.grey_scale
of_ten P e Disp h = e.disp
of_ten P e Csrw h = e.csrw
of_ten P e SleepIn h = absurd (omega arith)
of_ten P e Csrr h = absurd (omega arith)
of_ten P e Mwrite h = absurd (omega arith)
of_ten P e Mread h = absurd (omega arith)
