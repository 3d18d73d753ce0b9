-- The marked code of a program, and its one listing.
use Rattle.std.proofs.Common.{◌≡◌, ◌∙◌, ℕ, List, Result, Ok, Err, IfOk, refl, ap, subst, sym}
use Rattle.setl_code.specs.declared.code.Code.{Code as RustCode}
use Rattle.setl_code.specs.Code.{Code}
use Rattle.setl_code.specs.CodeOf.{code_of}
use Rattle.setl_code.specs.Listing.{listing}
use Rattle.setl_code.specs.Plain.{plain_code}
use Rattle.setl_code_marked.specs.Claims.{MarkedIsThere, MarkedIsOne}
use Rattle.setl_code_marked.specs.Marked.{declared_in, Marked}
use Rattle.setl_program.specs.Program.{Program}
use Rattle.setl_program.specs.ProgramOf.{program_of}
use Rattle.setl_top.specs.Laws.{OneListing}
use Rattle.setl_top.specs.Listings.{IsMarked, IsListing}
use Rattle.setl_tree.specs.declared.tree.Tree.{Tree}

-- the code of a program was marked
pub marked_by : {F : Type 0} (p : Program) (c : Code) (r : Result RustCode F) → c ≡ code_of p → IfOk r (λ m. Marked (declared_in p.modes) c (plain_code m)) → IfOk r (λ m. IsMarked p (plain_code m))
marked_by p c r is h = subst (λ k. IfOk r (λ m. Marked (declared_in p.modes) k (plain_code m))) is h

-- the text of the marked code of a tree's program is its listing
pub listed_by : {V F : Type 0} (items : V → List ℕ) (tree : Tree) (p : Program) (c : Code) (r : Result V F) → p ≡ program_of tree → IsMarked p c → IfOk r (λ v. items v ≡ listing c) → IfOk r (λ v. IsListing tree (items v))
listed_by items tree p c (Ok v) is marked h = record { code = c; marked = subst (λ q. IsMarked q c) is marked; lists = h }
listed_by items tree p c (Err e) is marked h = h

pub some_listing : MarkedIsThere → (tree : Tree) → (text : List ℕ) × IsListing tree text
some_listing there tree =
    let p = program_of tree in
    let m = there (declared_in p.modes) (code_of p) in
    (listing m.0, record { code = m.0; marked = m.1; lists = refl })

pub one_listing : MarkedIsThere → MarkedIsOne → OneListing
one_listing there one tree =
    let p = program_of tree in
    let some = some_listing there tree in
    (some.0, some.1, λ other is. is.lists ∙ ap listing (one (declared_in p.modes) (code_of p) is.code some.1.code is.marked some.1.marked) ∙ sym some.1.lists)
