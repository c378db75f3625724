use Rattle.host.proofs.SentBytes.{record_saved}
use Rattle.host.proofs.sending.granivolche_send.Goals as goal

pub returns : goal.returns
returns c = record_saved _ _ _ _ c.fits.ensures c.if-not-fits.false c.read.ensures c.in-Some.is c.send-refused.ensures c.write.ensures
