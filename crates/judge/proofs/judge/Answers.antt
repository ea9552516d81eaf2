-- What was found out crosses as three numbers.
use Rattle.judge.proofs.judge.Goals as goal

pub returns-in-Err : goal.returns-in-Err
returns-in-Err c = rw (c.number.ensures, c.place.ensures) c.in-Err.ensures.judges
