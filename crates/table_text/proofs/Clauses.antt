-- What a reader may promise that answers as the reading does.
use Rattle.std.proofs.Common.{◌≡◌, ◌≢◌, ℕ, List, Result, Ok, Err, refl, sym, ◌∙◌, ap, subst}
use Rattle.table_text.specs.Faults.{IsTablesText, IsFirstFault}
use Rattle.table_text.specs.Reading.{Gives, reading}
use Rattle.table_text.specs.declared.decl.Decl.{Decl}
use Rattle.table_text.specs.declared.fault.TextFault.{TextFault}
use Rattle.table_text.specs.declared.fault.TextStop.{TextStop}
use Rattle.table_text.specs.declared.fault.TextStop.TheVariants.{Fault, NoMemory}
use Rattle.table_text.proofs.Verdicts.{reading-tables, reading-fault, fault-reading}

abbrev Read : Type 0
Read = Result (List Decl) TextFault

same_ok : (es ds : List Decl) → ◌≡◌ {A = Read} (Ok es) (Ok ds) → es ≡ ds
same_ok es ds e = cc

same_err : (h f : TextFault) → ◌≡◌ {A = Read} (Err h) (Err f) → h ≡ f
same_err h f e = cc

err_ok : (f : TextFault) (ds : List Decl) → ◌≡◌ {A = Read} (Err f) (Ok ds) → ⊥
err_ok f ds e = cc

pub refused : (text : List ℕ) (r : Result (List Decl) TextStop) (f : TextFault) → Gives r (reading text) → r ≡ Err (Fault f) → IsFirstFault text f
refused text r f g e = let at : Gives (Err (Fault f)) (reading text) = subst (λ (s : Result (List Decl) TextStop). Gives s (reading text)) e g in fault-reading text f at

pub reads : (text : List ℕ) (r : Result (List Decl) TextStop) (ds : List Decl) → Gives r (reading text) → IsTablesText text ds → r ≢ Err NoMemory → r ≡ Ok ds
reads text (Ok es) ds g t memory = let e : ◌≡◌ {A = Read} (Ok es) (Ok ds) = sym g ∙ reading-tables text ds t in ap Ok (same_ok es ds e)
reads text (Err (Fault f)) ds g t memory = let e : ◌≡◌ {A = Read} (Err f) (Ok ds) = sym g ∙ reading-tables text ds t in absurd (err_ok f ds e)
reads text (Err NoMemory) ds g t memory = absurd (memory refl)

pub refuses : (text : List ℕ) (r : Result (List Decl) TextStop) (f : TextFault) → Gives r (reading text) → IsFirstFault text f → r ≢ Err NoMemory → r ≡ Err (Fault f)
refuses text (Ok es) f g t memory = let e : ◌≡◌ {A = Read} (Err f) (Ok es) = sym (reading-fault text f t) ∙ g in absurd (err_ok f es e)
refuses text (Err (Fault h)) f g t memory = let e : ◌≡◌ {A = Read} (Err h) (Err f) = sym g ∙ reading-fault text f t in ap (λ k. Err (Fault k)) (same_err h f e)
refuses text (Err NoMemory) f g t memory = absurd (memory refl)
