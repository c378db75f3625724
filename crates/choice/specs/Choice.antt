-- How the definitions choose: a test and two cases.
use Rattle.std.specs.Prelude.{ℕ, Bool, true, false, ltb, leb, eqb}

infix 10 when◌then◌else◌
infix 40 ◌<?◌
infix 40 ◌≤?◌
infix 40 ◌=?◌
abbrev pub when◌then◌else◌ : {A : Type 0} → Bool → A → A → A
when true then x else y = x
when false then x else y = y

abbrev pub ◌<?◌ : ℕ → ℕ → Bool
a <? b = ltb a b

abbrev pub ◌≤?◌ : ℕ → ℕ → Bool
a ≤? b = leb a b

abbrev pub ◌=?◌ : ℕ → ℕ → Bool
a =? b = eqb a b
