-- What a source and a listing of the program stand for.
use Rattle.notes.specs.Sources as sources
use Rattle.notes.specs.declared.source.Source.{Source}
use Rattle.notes.specs.declared.source.Listing.{Listing}

abbrev pub source_meant : Source → sources.Source
source_meant s = record { name = s.name.now; text = s.text.now; colours = s.colours }

abbrev pub listing_meant : Listing → sources.Listing
listing_meant l = record { source = source_meant l.source; places = l.places.now; functions = l.functions.now; threads = l.threads.now }
