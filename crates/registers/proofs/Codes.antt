-- A command is known by its code.
use Rattle.std.proofs.Common.{◌≡◌, true, Option, None, Some, sym, refl, ap, ◌∙◌, eqb-true}
use Rattle.registers.specs.declared.Command.{Command}
use Rattle.registers.specs.declared.Command.TheVariants.{SystemSet, SleepIn, Disp, Scroll, CsrForm, CsrDir, Ovlay, CgramAdr, HdotScr, GrayScale, Csrw, Csrr, Mwrite, Mread}
use Rattle.registers.specs.Commands.{command_of, code, ◌is◌}
use Rattle.registers.specs.Pending.{pending_code}

pub of_code : (c : Command) → command_of (code c) ≡ Some c
unfolding command_of
of_code SystemSet = refl
of_code SleepIn = refl
of_code Disp = refl
of_code Scroll = refl
of_code CsrForm = refl
of_code CsrDir = refl
of_code Ovlay = refl
of_code CgramAdr = refl
of_code HdotScr = refl
of_code GrayScale = refl
of_code Csrw = refl
of_code Csrr = refl
of_code Mwrite = refl
of_code Mread = refl

pub of_pending_code : (o : Option Command) → command_of (pending_code o) ≡ o
unfolding command_of
of_pending_code None = refl
of_pending_code (Some c) = of_code c

pub is_same : (c d : Command) → (c is d) ≡ true → c ≡ d
is_same c d e = let s : Some c ≡ Some d = sym (of_code c) ∙ ap command_of (eqb-true _ _ e) ∙ of_code d in cc
