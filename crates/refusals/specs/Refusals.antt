-- The refusals of documents 01 and 02 by number, and the first of several in their order.
use Rattle.std.specs.Prelude.{ℕ, zero, suc, Bool, true, false, cond, List, [], ◌∷◌, eqb, Result, Ok, Err, ⊤}
use Rattle.refusals.specs.declared.Refusal.{Refusal}
use Rattle.refusals.specs.declared.Refusal.TheVariants.{Configuration, OverDomain, BadQuote, OffTick, EarlierTime, CountLimit, SliceLength, LastQuoteBroken, TotalsUnmirrored, CellsUnmirrored, CellsNotTwicePairs, ImageLayout, ModelRow, RecordingUnsorted, WindowBackward, NoCalibratedState, SingularTransitions, NotConverged, Unrepresentable, RoundsOutOfRange}

-- the papers' number of each refusal: 1 to 19 are document 01's, 26 is of document 02, Q-10
abbrev pub number_of : Refusal → ℕ
number_of Configuration = 1
number_of OverDomain = 2
number_of BadQuote = 3
number_of OffTick = 4
number_of EarlierTime = 5
number_of CountLimit = 6
number_of SliceLength = 7
number_of LastQuoteBroken = 8
number_of TotalsUnmirrored = 9
number_of CellsUnmirrored = 10
number_of CellsNotTwicePairs = 11
number_of ImageLayout = 12
number_of (ModelRow i) = 13
number_of RecordingUnsorted = 14
number_of WindowBackward = 15
number_of NoCalibratedState = 16
number_of SingularTransitions = 17
number_of NotConverged = 18
number_of Unrepresentable = 19
number_of RoundsOutOfRange = 26

-- all refusals, 13 at row 0
abbrev pub refusals : List Refusal
refusals =
    Configuration ∷
    OverDomain ∷
    BadQuote ∷
    OffTick ∷
    EarlierTime ∷
    CountLimit ∷
    SliceLength ∷
    LastQuoteBroken ∷
    TotalsUnmirrored ∷
    CellsUnmirrored ∷
    CellsNotTwicePairs ∷
    ImageLayout ∷
    ModelRow 0 ∷
    RecordingUnsorted ∷
    WindowBackward ∷
    NoCalibratedState ∷
    SingularTransitions ∷
    NotConverged ∷
    Unrepresentable ∷
    RoundsOutOfRange ∷
    []

-- what a check finds: nothing, or the first refusal
abbrev pub Check : Type 0
Check = Result ⊤ Refusal

-- the refusal of a list that has the number k
abbrev pub refused_by : List Refusal → ℕ → Check
refused_by [] k = Ok tt
refused_by (r ∷ rs) k = cond (eqb (number_of r) k) (Err r) (refused_by rs k)

-- refusal k; a number that no refusal has refuses nothing
abbrev pub refusal : ℕ → Check
refusal k = refused_by refusals k

-- refusal k where the test holds
abbrev pub refuse_if : Bool → ℕ → Check
refuse_if true k = refusal k
refuse_if false k = Ok tt

-- the first refusal of two checks
abbrev pub first_of : Check → Check → Check
first_of (Ok _) check = check
first_of (Err r) check = Err r

-- the first refusal of the checks i, i + 1, .., k of them
abbrev pub first_from : (ℕ → Check) → ℕ → ℕ → Check
first_from f i zero = Ok tt
first_from f i (suc k) = first_of (f i) (first_from f (suc i) k)

-- 0 if nothing is refused, else the refusal's number
abbrev pub check_number : Check → ℕ
check_number (Ok _) = 0
check_number (Err r) = number_of r

-- the row that 13 names; of any other refusal, the row given
abbrev pub row_or : Refusal → ℕ → ℕ
row_or Configuration row = row
row_or OverDomain row = row
row_or BadQuote row = row
row_or OffTick row = row
row_or EarlierTime row = row
row_or CountLimit row = row
row_or SliceLength row = row
row_or LastQuoteBroken row = row
row_or TotalsUnmirrored row = row
row_or CellsUnmirrored row = row
row_or CellsNotTwicePairs row = row
row_or ImageLayout row = row
row_or (ModelRow i) row = i
row_or RecordingUnsorted row = row
row_or WindowBackward row = row
row_or NoCalibratedState row = row
row_or SingularTransitions row = row
row_or NotConverged row = row
row_or Unrepresentable row = row
row_or RoundsOutOfRange row = row
