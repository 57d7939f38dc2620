-- The laws of sites, from the lemmas on ports, walks and distances.
use Rattle.graph.specs.Laws.{Laws}
use Rattle.graph.proofs.Drawn.{inside, both, apart, ports_once, arcs_are, links_few}
use Rattle.graph.proofs.Walks.{distance_unique}
use Rattle.graph.proofs.Distances.{reached_by, shortest_below}
use Rattle.graph.proofs.Heights.{distance_is, height_is, greatest_unique}

pub laws : Laws
laws = record {
  ports_pair = λ m drawn v. (ports_once m drawn v, λ u h. (apart m drawn u v h, (inside m drawn u v h).1, both m drawn u v h));
  handshake = arcs_are;
  links_few = links_few;
  reached_told = reached_by;
  distances_are = distance_is;
  distance_unique = distance_unique;
  distances_below = λ m proper v d t. shortest_below m proper.drawn v d t;
  height_is = height_is;
  height_unique = greatest_unique;
}
