pub mod ForeignLemmas
