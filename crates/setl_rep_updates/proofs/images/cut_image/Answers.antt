use Rattle.setl_rep_updates.proofs.images.cut_image.Goals as goal

pub cut_at-requires-clause-images : goal.cut_at-requires-clause-images
cut_at-requires-clause-images c = λ w is. c.requires.images c.in-Some.e.block w is
