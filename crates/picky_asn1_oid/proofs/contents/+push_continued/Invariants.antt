use Rattle.picky_asn1_oid.proofs.contents.+push_continued.Given as goal

abbrev pub decreases-push_continued : goal.decreases-push_continued
decreases-push_continued l = l.number
