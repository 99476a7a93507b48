-- `put_digits`: the decimal digits of n, of which there are at most k, over the front of a buffer.
use Rattle.reply.proofs.+put_digits.Given as goal

abbrev pub decreases-put_digits : goal.decreases-put_digits
decreases-put_digits l = l.k
