pub mod FiveWeights
