-- Why a call is refused.
--   number_of      the number of a refusal
--   refusal_of     why a call was refused, if it was
--   Check          a test of what was handed in, with the refusal where it fails
--   first_failed   the refusal by the first of several checks that fails
use Rattle.std.specs.Prelude.{ℕ, Bool, cond, List, [], ◌∷◌, Some, None, Ok, Err, Option, Result}
use Rattle.literals.specs.declared.refusal.Refusal.{Refusal}
use Rattle.literals.specs.declared.refusal.Refusal.TheVariants.{OutOfRange, TermCount, Weight, SwitchTwice, Degree, NamesLine, Fields, NotNumber, KindLetter, RuleOrder, KindOrder, BookLength, NoSuchPlace, DraftFull, ClashStands, Unsettled, Stands, OppositeStands, LevelNotBelow, WrongReceipt, Shut, SwitchFree, FewerTold}

abbrev pub number_of : Refusal → ℕ
number_of OutOfRange = 1
number_of TermCount = 2
number_of Weight = 3
number_of SwitchTwice = 4
number_of Degree = 5
number_of NamesLine = 6
number_of Fields = 7
number_of NotNumber = 8
number_of KindLetter = 9
number_of RuleOrder = 10
number_of KindOrder = 11
number_of BookLength = 12
number_of NoSuchPlace = 13
number_of DraftFull = 21
number_of ClashStands = 22
number_of Unsettled = 23
number_of Stands = 24
number_of OppositeStands = 25
number_of LevelNotBelow = 26
number_of WrongReceipt = 27
number_of Shut = 28
number_of SwitchFree = 29
number_of FewerTold = 30

abbrev pub refusal_of : {A : Type 0} → Result A Refusal → Option Refusal
refusal_of (Ok x) = None
refusal_of (Err e) = Some e

pub record Check : Type 0 where
  pub fails : Bool
  pub refusal : Refusal

abbrev pub check : Bool → Refusal → Check
check fails refusal = record { fails = fails; refusal = refusal }

abbrev pub first_failed : List Check → Option Refusal
first_failed [] = None
first_failed (c ∷ cs) = cond c.fails (Some c.refusal) (first_failed cs)
