-- Lists of outputs that are written in order.
use Rattle.std.proofs.Common.{◌≡◌, ◌<◌, Contains, ◌+◌, ℕ, List, [], ◌∷◌, ◌++◌, ◌⊎◌, Err, Some, length, get_or, take, drop, map, refl, sym, ◌∙◌, ap, subst, inl, inr, suc, add-one}
use Rattle.std.proofs.lemmas.List.{take_more, map-append, take-append-drop, get_or-map, length-map}
use Rattle.std.proofs.Math.Seq.{drop-cons}
use Rattle.sut_outside.specs.Files.{Files, SameOtherFiles}
use Rattle.sut_outside.specs.Deliveries.{WrittenAll, StoppedAt}
use Rattle.sut_outside.proofs.Writing.{written_more, stopped_next}
use Rattle.sut_status.specs.declared.statuses.Status.{Status}
use Rattle.sut_status.specs.declared.statuses.Status.TheVariants.{NoMemory, WriteFault}
use Rattle.sut_run.specs.declared.writing.Output.{Output}
use Rattle.sut_run.specs.Outputs.{named_text, texts_in}
use Rattle.sut_run.specs.Steps.{WritesEnd}

-- the outputs up to and with the one at i
pub texts_in-take_more :
    (outputs : List Output) (i : ℕ) (output : Output) → i < length outputs → output ≡ get_or outputs i output →
    texts_in (take (i + 1) outputs) ≡ texts_in (take i outputs) ++ named_text output ∷ []
texts_in-take_more outputs i output below is =
    ap texts_in (take_more outputs i output below)
    ∙ map-append named_text (take i outputs) (get_or outputs i output ∷ [])
    ∙ ap (λ o. texts_in (take i outputs) ++ named_text o ∷ []) (sym is)

-- the outputs before the one at i, it, and those after it
pub texts_in-at :
    (outputs : List Output) (i : ℕ) (output : Output) → i < length outputs → output ≡ get_or outputs i output →
    texts_in outputs ≡ texts_in (take i outputs) ++ named_text output ∷ texts_in (drop (i + 1) outputs)
texts_in-at outputs i output below is =
    ap texts_in (sym (take-append-drop i outputs))
    ∙ map-append named_text (take i outputs) (drop i outputs)
    ∙ ap (λ rest. texts_in (take i outputs) ++ texts_in rest) (drop-cons outputs i output below)
    ∙ ap (λ o. texts_in (take i outputs) ++ named_text o ∷ texts_in (drop (suc i) outputs)) (sym is)
    ∙ ap (λ n. texts_in (take i outputs) ++ named_text output ∷ texts_in (drop n outputs)) (sym (add-one i))

-- the write of the output at i was made
pub written_step :
    (outputs : List Output) (i : ℕ) (output : Output) → i < length outputs → output ≡ get_or outputs i output →
    (old now new : Files) → WrittenAll (texts_in (take i outputs)) old now →
    (new output.name ≡ Some output.text.items) × SameOtherFiles output.name now new →
    WrittenAll (texts_in (take (i + 1) outputs)) old new
written_step outputs i output below is old now new written made =
    rw (texts_in-take_more outputs i output below is)
    (written_more (texts_in (take i outputs)) output.name output.text.items old now new written made.0 made.1)

-- the write of the output at i stopped
pub stopped_step :
    (outputs : List Output) (i : ℕ) (output : Output) → i < length outputs → output ≡ get_or outputs i output →
    (stopped : Status) → (stopped ≡ NoMemory) ⊎ (stopped ≡ WriteFault output.name) →
    (old now new : Files) → WrittenAll (texts_in (take i outputs)) old now →
    SameOtherFiles output.name now new → WritesEnd (texts_in outputs) {T = Unit {0}} (Err stopped) old new
stopped_step outputs i output below is stopped why old now new written others =
    let at : StoppedAt output.name (texts_in outputs) old new =
    rw (texts_in-at outputs i output below is)
    (stopped_next (texts_in (take i outputs)) (texts_in (drop (i + 1) outputs)) output.name output.text.items old now new written others)
    in
    elim why [
      | inl memory ↦ let P : Status → Type 0 = λ s. WritesEnd (texts_in outputs) {T = Unit {0}} (Err s) old new in subst P (sym memory) (output.name, at)
      | inr fault ↦ let P : Status → Type 0 = λ s. WritesEnd (texts_in outputs) {T = Unit {0}} (Err s) old new in subst P (sym fault) at
    ]

-- the write at i is among the names
pub name_at : (outputs : List Output) (i : ℕ) (output : Output) → i < length outputs → output ≡ get_or outputs i output → Contains (map (λ o. o.name) outputs) output.name
name_at outputs i output below is =
    (i, rw length-map below, get_or-map (λ o. o.name) outputs i output output.name below ∙ ap (λ o. o.name) (sym is))

-- the names of a list of outputs
pub names_in : (outputs : List Output) → map (λ o. o.name) outputs ≡ map (λ f. f.0) (texts_in outputs)
names_in [] = refl
names_in (o ∷ os) = ap (λ names. o.name ∷ names) (names_in os)
