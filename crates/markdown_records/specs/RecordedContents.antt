-- What a `RecordedText` says. Only private fields are behind this name.
use Rattle.markdown_records.specs.RecordEntry.{Contents}
use Rattle.markdown_records.specs.SaidBy.{contents_or_none, said_contents}
use Rattle.markdown_records.specs.declared.decode.RecordedText.{RecordedText}

abbrev pub contents_said : RecordedText → Contents
contents_said r = contents_or_none (said_contents r.source.now r.pool.now r.entries.now r.definitions.now)
