-- The number of documents 01 and 02 for each refusal and each kind, and the number and values of each answer.
use Rattle.std.specs.Prelude.{ℕ, Bool, true, false, cond, List, [], ◌∷◌, eqb, Result, Ok, Err}
use Rattle.ledger.specs.declared.Refusal.{Refusal}
use Rattle.ledger.specs.declared.Refusal.TheVariants.{NoSuchTask, TaskPresent, TaskAbsent, TaskWaiting, TaskRunning, ExtensionTooLong, LengthOutOfRange, HandlesSpent, NoFreeBlock, NoFreeExpiration, HandleNotGiven, ObjectGone, OutsideObject, WrongStoreLength, NotWellFormed, NotHexadecimal, UnknownOperation, WrongFrameLength, UnknownKind, BatchOutOfRange, OnlyMakePins, NotPinned, SumDiffers, ReserveAboveLimit, ReserveNotFree, AtLimit, OnlyViews, PrefixTooLong, LimitsOutOfRange}
use Rattle.ledger.specs.declared.Kind.{Kind}
use Rattle.ledger.specs.declared.Kind.TheVariants.{Local, Global, Pinned}
use Rattle.ledger.specs.declared.Answer.{Answer}
use Rattle.ledger.specs.declared.Answer.TheVariants.{Refused, Done, Advanced, Handle, Bytes, Counted, Lasts}

-- R45: the refusals by number
abbrev pub number_of : Refusal → ℕ
number_of NoSuchTask = 1
number_of TaskPresent = 2
number_of TaskAbsent = 3
number_of TaskWaiting = 4
number_of TaskRunning = 5
number_of ExtensionTooLong = 6
number_of LengthOutOfRange = 7
number_of HandlesSpent = 8
number_of NoFreeBlock = 9
number_of NoFreeExpiration = 10
number_of HandleNotGiven = 11
number_of ObjectGone = 12
number_of OutsideObject = 13
number_of WrongStoreLength = 14
number_of NotWellFormed = 15
number_of NotHexadecimal = 16
number_of UnknownOperation = 17
number_of WrongFrameLength = 18
number_of UnknownKind = 19
number_of BatchOutOfRange = 20
number_of OnlyMakePins = 21
number_of NotPinned = 22
number_of SumDiffers = 23
number_of ReserveAboveLimit = 24
number_of ReserveNotFree = 25
number_of AtLimit = 26
number_of OnlyViews = 27
number_of PrefixTooLong = 28
number_of LimitsOutOfRange = 29

abbrev pub is_refusal : Answer → Bool
is_refusal (Refused why) = true
is_refusal Done = false
is_refusal (Advanced b) = false
is_refusal (Handle handle) = false
is_refusal Bytes = false
is_refusal (Counted usage) = false
is_refusal (Lasts life) = false

-- the number of an answer: 0 where the call was carried out
abbrev pub answer_number : Answer → ℕ
answer_number (Refused r) = number_of r
answer_number Done = 0
answer_number (Advanced b) = 0
answer_number (Handle h) = 0
answer_number Bytes = 0
answer_number (Counted u) = 0
answer_number (Lasts life) = 0

-- O26, O27: its values, but for the bytes of a read, which stand beside it
abbrev pub answer_values : Answer → List ℕ
answer_values (Refused r) = []
answer_values Done = []
answer_values (Advanced b) = cond b 1 0 ∷ []
answer_values (Handle h) = h ∷ []
answer_values Bytes = []
answer_values (Counted u) = u.small ∷ u.large ∷ u.expirations ∷ u.given ∷ []
answer_values (Lasts life) = life.local ∷ life.global ∷ []

-- F21: a kind by its byte; R19 where it is unknown
abbrev pub kind_of : ℕ → Result Kind Refusal
kind_of number = cond (eqb number 0) (Ok Local) (cond (eqb number 1) (Ok Global) (cond (eqb number 2) (Ok Pinned) (Err UnknownKind)))

-- and its byte
abbrev pub kind_number : Kind → ℕ
kind_number Local = 0
kind_number Global = 1
kind_number Pinned = 2
