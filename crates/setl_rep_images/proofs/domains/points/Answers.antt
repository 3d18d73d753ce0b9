use Rattle.std.proofs.Common.{◌≡◌, ◌∙◌, ℕ, is_some, ap, subst}
use Rattle.std.specs.FinSet as set
use Rattle.setl_remote.specs.Slots.{slot_at}
use Rattle.setl_sparse.specs.Entries.{content_at}
use Rattle.setl_rep_forms.specs.Form.{numbers, sparse}
use Rattle.setl_rep_forms.specs.FormOf.{form, of_remote, of_remote_map, of_sparse, of_sparse_map}
use Rattle.setl_rep_images.proofs.Points.{remote_domain, sparse_domain}
use Rattle.setl_rep_images.proofs.domains.points.Goals as goal

pub returns-in_ok-numbers-in-RemoteMap-clause-form : goal.returns-in_ok-numbers-in-RemoteMap-clause-form
returns-in_ok-numbers-in-RemoteMap-clause-form c =
    let b = c.in-RemoteMap.b in
    let many = c.in-RemoteMap.field-1 in
    let slots = c.in-RemoteMap.slots in
    let ns = c.in_ok-numbers-in-RemoteMap.numbers in
    remote_domain c.slots_are_keyed.ensures (form c.args.f.now) _ b many slots.value ns (ap form c.in-RemoteMap.is ∙ of_remote_map b many slots) (of_remote b ns)
    (subst (λ cs. (n : ℕ) → set.contains ns n ≡ is_some (slot_at cs n)) c.deref.ensures c.in_ok-numbers-in-RemoteMap.ensures)

pub returns-in_ok-shared-in-SparseMap-clause-form : goal.returns-in_ok-shared-in-SparseMap-clause-form
returns-in_ok-shared-in-SparseMap-clause-form c =
    let b = c.in-SparseMap.b in
    let many = c.in-SparseMap.field-1 in
    let entries = c.in-SparseMap.table in
    let shared = c.in_ok-shared-in-SparseMap.shared in
    let ns = c.in_ok-numbers-in-SparseMap.numbers in
    let same : shared.value ≡ ns = c.in_ok-shared-in-SparseMap.ensures.ok in
    sparse_domain (form c.args.f.now) _ b many entries.value ns (ap form c.in-SparseMap.is ∙ of_sparse_map b many entries) (of_sparse b shared ∙ ap (numbers sparse b) same)
    (subst (λ es. (n : ℕ) → set.contains ns n ≡ is_some (content_at es n)) c.deref-in-SparseMap.ensures c.in_ok-numbers-in-SparseMap.ensures)
