-- `put_natural` ends, since the number falls with each call.
use Rattle.lines.proofs.writing.Writer.+put_natural.Given as goal

abbrev pub decreases-put_natural : goal.decreases-put_natural
decreases-put_natural l = l.number
