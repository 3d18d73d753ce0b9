use Rattle.setl_set.proofs.SetLaws as proved
use Rattle.setl_set.proofs.laws.operations_have_their_members.Goals as goal

pub returns : goal.returns
returns c = record {
  insert = proved.inserts;
  remove = proved.removes;
  gather = proved.gathers;
  union = proved.unites;
  minus = proved.subtracts;
  meet = proved.intersects;
  symm = proved.differs;
}
