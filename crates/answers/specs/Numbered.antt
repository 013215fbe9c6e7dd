-- The number and the places of each refusal (R 10.1 to 10.4).
use Rattle.meaning.specs.Answer.{Answer, answer}
use Rattle.answers.specs.declared.Refusal.{Refusal}
use Rattle.answers.specs.declared.Refusal.TheVariants.{TooLong, NoToken, Crowded, NotInGrammar, PastLimit, Misnamed}
use Rattle.answers.specs.declared.Refusal.TheVariants.{BadRange, StartNotKept, Breaks, BufferTooShort, NoStart}
use Rattle.answers.specs.declared.Refusal.TheVariants.{NoFrame, Misplaced, NotAllowed, NoRemainder, ThreadCount}

abbrev pub numbered : Refusal → Answer
numbered TooLong = answer 1 0 0
numbered (NoToken byte) = answer 2 byte 0
numbered (Crowded byte) = answer 3 byte 0
numbered (NotInGrammar byte) = answer 4 byte 0
numbered (PastLimit byte) = answer 5 byte 0
numbered (Misnamed byte) = answer 6 byte 0
numbered (BadRange byte) = answer 7 byte 0
numbered (StartNotKept byte) = answer 8 byte 0
numbered (Breaks region state) = answer 9 region state
numbered BufferTooShort = answer 10 0 0
numbered NoStart = answer 11 0 0
numbered (NoFrame line) = answer 12 line 0
numbered (Misplaced frame) = answer 13 frame 0
numbered (NotAllowed frame) = answer 14 frame 0
numbered (NoRemainder byte) = answer 15 byte 0
numbered ThreadCount = answer 16 0 0
