-- A line is there exactly if it is found near any place.
use Rattle.std.proofs.Common.{refl}
use Rattle.line_arena.proofs.arena.LineArena.line_at.Goals as goal

pub returns-in_err-id-clause-absent : goal.returns-in_err-id-clause-absent
returns-in_err-id-clause-absent c = rw c.from_residual.ensures (λ _. (c.in_err-id.ensures {u = tt}).absent.0 refl, λ _. refl)

pub returns-in_err-id-clause-arena : goal.returns-in_err-id-clause-arena
returns-in_err-id-clause-arena c = (c.in_err-id.ensures {u = tt}).arena

pub returns-clause-found : goal.returns-clause-found
returns-clause-found c = (c.in_ok-id.ensures {u = tt}).found

pub returns-clause-absent : goal.returns-clause-absent
returns-clause-absent c = (λ no. absurd (cc no), λ none. absurd (none c.in_ok-id.id (returns-clause-found c)))

pub returns-clause-arena : goal.returns-clause-arena
returns-clause-arena c = (c.in_ok-id.ensures {u = tt}).arena
