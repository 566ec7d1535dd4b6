use Rattle.wire_rules.specs.Shown.{entry_word}
use Rattle.wire_rules.specs.Commands.{word_of}
use Rattle.shown_messages.proofs.Joined.{first_joined}
use Rattle.shown_messages.proofs.showing.put_entries.Goals as goal

pub returns : goal.returns
returns c =
    rw (c.in_ok-put_each_entry.ensures, c.in_ok-extend_from_slice.ensures.items, c.word_of.ensures)
    (first_joined entry_word c.args.out.now.items (word_of c.args.name) c.args.entries.now)
