use Rattle.image_text.proofs.putting.put_volume.Goals as goal

pub returns-in-BadCrc : goal.returns-in-BadCrc
returns-in-BadCrc g c = rw c.in-BadCrc.is c.put_words-in-BadCrc.ensures

pub returns-in-Outside : goal.returns-in-Outside
returns-in-Outside g c = rw c.in-Outside.is c.put_words-in-Outside.ensures

pub returns-in-BadText : goal.returns-in-BadText
returns-in-BadText g c = rw c.in-BadText.is c.put_words-in-BadText.ensures
