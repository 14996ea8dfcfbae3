-- The measure is the places that are left.
use Rattle.text.proofs.decimals.+put_numeral.Given as goal

abbrev pub decreases-put_numeral : goal.decreases-put_numeral
decreases-put_numeral l = l.places
