use Rattle.setl_rep_maps.proofs.Tabled.{stands_for_pairs, contents_stand, single_contents_stand, none_elsewhere}
use Rattle.setl_rep_maps.proofs.laws.contents_stand_for_images.Goals as goal

pub returns-clause-pairs : goal.returns-clause-pairs
returns-clause-pairs c = stands_for_pairs

pub returns-clause-images : goal.returns-clause-images
returns-clause-images c = contents_stand c.tables_have_their_pairs.ensures.all_images

pub returns-clause-image : goal.returns-clause-image
returns-clause-image c = single_contents_stand c.tables_have_their_pairs.ensures.images

pub returns-clause-none : goal.returns-clause-none
returns-clause-none c = none_elsewhere c.tables_have_their_pairs.ensures.none
