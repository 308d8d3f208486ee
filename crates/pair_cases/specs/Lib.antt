pub mod FourPairs
