-- The number of each refusal, as docs/REFUSALS.md lists them. Definitions, and a statement; the theorem stands in proofs/Numbers.
use Rattle.std.specs.Prelude.{ℕ, [], ◌∷◌, ◌≡◌, map}
use Rattle.refusals.specs.declared.refusal.Refusal.{Refusal}
use Rattle.refusals.specs.declared.refusal.Refusal.TheVariants.{UnevenRows, NoPoint, TooManyPoints, StartsOffCurve, OffCurveNeighbours, TooManySamples, TooManyBreaks, PastLastSample, OutputTooShort, NoSuchRun, NoSuchSegment, CutShort, EndsNotRising, TooLarge, Composite, NoSuchPenalty, Outside16Bits, ListTooShort, Malformed, CubicOrOpen, NoOnCurve}

abbrev pub number_of : Refusal → ℕ
number_of UnevenRows = 1
number_of NoPoint = 2
number_of TooManyPoints = 3
number_of StartsOffCurve = 4
number_of OffCurveNeighbours = 5
number_of TooManySamples = 6
number_of TooManyBreaks = 7
number_of PastLastSample = 8
number_of OutputTooShort = 9
number_of NoSuchRun = 10
number_of NoSuchSegment = 11
number_of CutShort = 12
number_of EndsNotRising = 13
number_of TooLarge = 14
number_of Composite = 15
number_of NoSuchPenalty = 16
number_of Outside16Bits = 17
number_of ListTooShort = 18
number_of Malformed = 19
number_of CubicOrOpen = 20
number_of NoOnCurve = 21

-- in the order of docs/REFUSALS.md they are the numbers from 1 to 21
abbrev pub NumbersRise : Type 0
NumbersRise =
    map number_of
    (UnevenRows ∷ NoPoint ∷ TooManyPoints ∷ StartsOffCurve ∷ OffCurveNeighbours ∷ TooManySamples ∷ TooManyBreaks ∷
    PastLastSample ∷ OutputTooShort ∷ NoSuchRun ∷ NoSuchSegment ∷ CutShort ∷ EndsNotRising ∷ TooLarge ∷
    Composite ∷ NoSuchPenalty ∷ Outside16Bits ∷ ListTooShort ∷ Malformed ∷ CubicOrOpen ∷ NoOnCurve ∷ [])
    ≡ 1 ∷ 2 ∷ 3 ∷ 4 ∷ 5 ∷ 6 ∷ 7 ∷ 8 ∷ 9 ∷ 10 ∷ 11 ∷ 12 ∷ 13 ∷ 14 ∷ 15 ∷ 16 ∷ 17 ∷ 18 ∷ 19 ∷ 20 ∷ 21 ∷ []
