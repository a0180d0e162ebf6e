-- What the fields of a session stand for, and what they keep.
use Rattle.std.specs.Prelude.{length, IfSome, Option, None, Some}
use Rattle.sut_tables.specs.ProblemFacts.{ProblemFacts}
use Rattle.sut_tables.specs.Problems.{IsTableOf}
use Rattle.flow_residual.specs.Rooms.{IsRoomFor}
use Rattle.sut_circuit.specs.IsCircuit.{IsCircuit}
use Rattle.sut_session.specs.SessionFacts.{KeptNumbers, SessionFacts}
use Rattle.sut_session.specs.Standing.{IsAnswerTo}
use Rattle.sut_session.specs.declared.networks.Network.{Network}
use Rattle.sut_session.specs.declared.sessions.Session.TheInside.{Inside}

-- the circuit is the problem's, and the room was made for it
pub record IsNetworkOf (p : ProblemFacts) (n : Network) : Type 0 where
  pub circuit : IsCircuit p n.circuit
  pub room : IsRoomFor (length n.circuit.state.graph.nodes) n.room

-- the flows and the potentials of the circuit
abbrev pub numbers_of : Network → KeptNumbers
numbers_of n = record { numbers = n.circuit.state.flows; potentials = n.circuit.state.potentials }

abbrev pub kept_of : Option Network → Option KeptNumbers
kept_of None = None
kept_of (Some n) = Some (numbers_of n)

abbrev pub session_of : Inside → SessionFacts
session_of s = record { problem = s.problem; answer = s.answer; kept = kept_of s.network }

-- a network and the last table are the problem's, and an answer answers it
pub record KeepsAnswer (s : Inside) : Type 0 where
  pub network : IfSome s.network (IsNetworkOf s.problem)
  pub answer : IfSome s.answer (IsAnswerTo s.problem (kept_of s.network))
  pub last : IfSome s.last (IsTableOf s.problem)
