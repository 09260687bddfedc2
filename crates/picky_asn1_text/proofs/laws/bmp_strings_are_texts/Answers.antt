use Rattle.picky_asn1_text.proofs.Plane.{texts_same, within, text_of}
use Rattle.picky_asn1_text.proofs.laws.bmp_strings_are_texts.Goals as goal

pub returns : goal.returns
returns c = record { back = texts_same; exactly = within; every = text_of }
