-- `write_sections::put_domain` meets its contract.
use Rattle.image_written.specs.Records.{bytes}
use Rattle.write_sections.proofs.put_domain.Goals as goal

pub returns : goal.returns
unfolding bytes
returns c = (c.put_record.ensures.0, c.put_record.ensures.1)
