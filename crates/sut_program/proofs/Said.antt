-- What a put of a text on standard error leaves.
use Rattle.std.proofs.Common.{◌≡◌, ℕ, List, [], Option, Result, Ok, Err, inl, inr, sym}
use Rattle.std.proofs.lemmas.List.{append-nil}
use Rattle.sut_outside.specs.Files.{Told}
use Rattle.sut_outside.specs.Sent.{AppendsPart, Puts}
use Rattle.sut_outside.proofs.Told.{told_as}
use Rattle.sut_status.specs.declared.statuses.Status.{Status}
use Rattle.sut_status.specs.declared.statuses.Status.TheVariants.{NoMemory}
use Rattle.sut_status.specs.StatusLines.{status_line}
use Rattle.sut_program.specs.ErrorTexts.{IsErrorText, IsSaid, Says}

-- a part of the piece went out
pub part_of_put : {T E : Type 0} (piece : List ℕ) (r : Result T E) (old new : List ℕ) → Puts piece r old new → AppendsPart piece old new
part_of_put piece (Ok v) old new put = record { part = piece; rest = []; split = sym (append-nil piece); appended = put }
part_of_put piece (Err e) old new put = put

-- a put of what may be said
pub said_by_put :
    {T E : Type 0} (status : Status) (text : List ℕ) (r : Result T E) (before after : Option (List ℕ)) →
    IsSaid status text → Told before after (Puts text r) → Told before after (Says status)
said_by_put status text r before after right put =
    told_as (Puts text r) (Says status) (λ old new p. record { text = text; right = right; sent = part_of_put text r old new p }) before after put

-- a put of the text itself
pub said_text :
    {T E : Type 0} (status : Status) (text : List ℕ) (r : Result T E) (before after : Option (List ℕ)) →
    IsErrorText status text → Told before after (Puts text r) → Told before after (Says status)
said_text status text r before after right put = said_by_put status text r before after (inl right) put

-- a put of the line of want of memory
pub said_memory :
    {T E : Type 0} (status : Status) (text : List ℕ) (r : Result T E) (before after : Option (List ℕ)) →
    text ≡ status_line NoMemory → Told before after (Puts text r) → Told before after (Says status)
said_memory status text r before after right put = said_by_put status text r before after (inr right) put
