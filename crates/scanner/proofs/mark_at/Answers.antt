-- `scanner::mark_at` meets its contract: no mark looks past two bytes, and none has the byte 0 that stands for the
-- file's end.
use borrow.Author.Rules.{rules}
use Prim.Native.Nat.{ℕ, ◌+◌, ◌<◌}
use mathlib.Core.List.{List, [], ◌∷◌}
use mathlib.Core.Path.{◌≡◌, sym, ap, ◌∙◌}
use native.Mathlib.Omega.{arith}
use lib.ListN.{drop, get_or, length}
use Rattle.std.specs.Prelude.{Option, unwrap_or}
use Rattle.syntax.specs.Decide.Scan.{mark_of}
use Rattle.syntax.specs.Token.{marks}
use Rattle.scanner.specs.Step.{marked, step_of}
use Rattle.scanner.proofs.Marks.{marks_at, marks_or, step_none, step_one, marked_length}
use Rattle.scanner.proofs.mark_at.Goals as goal

-- the mark that was found is that of the file at the place: the second byte is what stands behind, and 0 at the end
here : (file : List ℕ) (start : ℕ) {second : ℕ} {copied held : Option ℕ} {m r : Option (ℕ × ℕ)} → start < length file
    → second ≡ unwrap_or copied 0 → copied ≡ held → unwrap_or held 0 ≡ get_or file (start + 1) 0
    → m ≡ marked (mark_of marks (get_or file start 0 ∷ second ∷ [])) → m ≡ r
    → marked (mark_of marks (drop start file)) ≡ r
here file start h z y x e f =
    let i = z ∙ ap (λ (o : Option ℕ). unwrap_or o 0) y ∙ x in
    ap marked (marks_at file start h)
    ∙ sym (ap (λ (b : ℕ). marked (mark_of marks (get_or file start 0 ∷ b ∷ []))) i) ∙ sym e ∙ f

pub overflow_add-start-in-Some : goal.overflow_add-start-in-Some
overflow_add-start-in-Some c =
    let a = c.args in
    let found = here a.file.now a.start (search rules) c.unwrap_or-second.ensures c.copied.ensures
    (c.get.ensures.lookup.4 (omega arith) 0) c.mark_of.ensures c.in-Some.is in
    omega (arith, marked_length (marks_or (drop a.start a.file.now)) found)

pub returns-in-None : goal.returns-in-None
returns-in-None c =
    let a = c.args in
    let found = here a.file.now a.start (search rules) c.unwrap_or-second.ensures c.copied.ensures
    (c.get.ensures.lookup.4 (omega arith) 0) c.mark_of.ensures c.in-None.is in
    c.none_at.ensures ∙ ap (step_of a.start) (sym (step_none (marks_or (drop a.start a.file.now)) found))

pub returns-in-Some : goal.returns-in-Some
returns-in-Some c =
    let a = c.args in
    let found = here a.file.now a.start (search rules) c.unwrap_or-second.ensures c.copied.ensures
    (c.get.ensures.lookup.4 (omega arith) 0) c.mark_of.ensures c.in-Some.is in
    c.found.ensures ∙ sym (step_one a.start (marks_or (drop a.start a.file.now)) found)
