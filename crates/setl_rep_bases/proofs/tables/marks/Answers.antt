use Rattle.std.proofs.Common.{rules}
use Rattle.std.proofs.lemmas.Result.{IfOk-weaker}
use Rattle.std.proofs.lemmas.Iterator.Adapters.{fact_from_collect}
use Rattle.std.proofs.lemmas.Iterator.{YieldsList-from_map}
use Rattle.std.proofs.lemmas.Iterator.Consumers.{YieldsList-at, YieldsList-from_rest}
use Rattle.std.specs.BTreeMap.{IsFromIterResult}
use Rattle.setl_rep_bases.specs.BaseId.{id_cmp}
use Rattle.setl_rep_bases.specs.Marks.{mark_of}
use Rattle.setl_rep_bases.proofs.Bringing.{made}
use Rattle.setl_rep_bases.proofs.tables.marks.Goals as goal

pub returns : goal.returns
returns c =
    IfOk-weaker c.collect.result _ _ (λ ms h. made c.args.table.now.entries ms.entries c.iter.ensures.ordered h.0)
    (fact_from_collect (λ xs ms. IsFromIterResult id_cmp xs ms) c.collect.result c.collect.ensures.ran
    (YieldsList-from_map _ (λ e. (e.0, mark_of e.1)) (YieldsList-at c.map.ensures.source (YieldsList-from_rest c.args.table.now.entries c.iter.ensures.rest)) c.map.ensures.closure (λ x r q k. search rules)))
