-- What drives a board by bus accesses: the product's own collector.
use Rattle.collector_phases.specs.Accesses.{access_of}
use Rattle.collector_replies.specs.Reply.{replied}
use Rattle.archive_turns.specs.Machine.{Host}

-- the collector of the specification, which fetches samples by word reads
abbrev pub words : Host
words = record { access = access_of; reply = replied }
